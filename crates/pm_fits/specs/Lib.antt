pub mod Fits
pub mod Sums
pub mod Ranges
pub mod Faults
pub mod Channels
pub mod Laws
