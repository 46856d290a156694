pub mod Planes
pub mod Sums
pub mod Expanded
pub mod Quadrics
pub mod Candidates
