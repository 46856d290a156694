pub mod Keys
pub mod Entries
pub mod Places
pub mod Heap
pub mod Tables
pub mod Parts
