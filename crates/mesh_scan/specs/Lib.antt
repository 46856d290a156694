pub mod Formats
pub mod Meaning
pub mod Fails
