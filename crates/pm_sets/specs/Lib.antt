pub mod Sets
pub mod Counted
pub mod Bits
