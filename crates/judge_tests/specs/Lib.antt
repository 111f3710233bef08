pub mod Clash
pub mod ClashLaw
