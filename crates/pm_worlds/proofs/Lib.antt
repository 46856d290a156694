pub mod Tiles
pub mod Worlds
pub mod RunMeshes
pub mod Cuts
pub mod Names
pub mod Parts
