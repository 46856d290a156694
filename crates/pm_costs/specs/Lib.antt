pub mod Following
pub mod Slots
pub mod Plain
