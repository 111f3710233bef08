pub mod Meaning
pub mod Making
pub mod Causes
pub mod Texts
