pub mod Prefix
pub mod Tables
pub mod Laws
