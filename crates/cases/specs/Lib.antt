pub mod Book
pub mod Judges
pub mod Worked
pub mod WorkedJudges
