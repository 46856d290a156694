pub mod Worlds
pub mod Cuts
pub mod Names
pub mod Parts
pub mod Laws
