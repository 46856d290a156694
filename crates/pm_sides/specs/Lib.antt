pub mod Lowering
pub mod Stored
pub mod Tables
pub mod Told
