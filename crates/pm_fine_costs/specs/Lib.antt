pub mod Corners
pub mod Volumes
pub mod FinePolicy
pub mod CornerPlanes
pub mod FineCosts
pub mod Rows
pub mod Steps
pub mod Going
