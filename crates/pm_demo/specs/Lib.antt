pub mod Views
pub mod Scene
pub mod Summary
pub mod Ending
