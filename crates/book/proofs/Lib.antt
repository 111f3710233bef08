pub mod Filled
pub mod Lower
pub mod Tests
