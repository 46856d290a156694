pub mod CornerNumbers
pub mod Shrinking
pub mod Tables
pub mod FaceRows
pub mod Walks
pub mod Writes
pub mod Following
pub mod Obstacles
