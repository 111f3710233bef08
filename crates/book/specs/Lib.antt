pub mod Limits
pub mod Lowest
pub mod Rules
pub mod Whole
