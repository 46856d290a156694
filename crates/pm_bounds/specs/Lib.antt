pub mod Boxes
pub mod Bounds
pub mod Tables
pub mod Leaves
pub mod Laws
