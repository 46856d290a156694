pub mod Tiles
