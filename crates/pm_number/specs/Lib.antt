pub mod Stages
pub mod Numbering
pub mod Shown
pub mod Tables
pub mod Laws
