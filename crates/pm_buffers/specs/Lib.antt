pub mod Buffers
pub mod Changes
pub mod Steps
pub mod Tables
pub mod Laws
