pub mod Inner
pub mod Laws
pub mod Test
pub mod Texts
pub mod Trials
pub mod Truth
pub mod Worlds
