pub mod Inputs
pub mod Measuring
pub mod Viewing
pub mod Causes
