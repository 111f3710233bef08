pub mod Links
pub mod Nesting
pub mod Tables
