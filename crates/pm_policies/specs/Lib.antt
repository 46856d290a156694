pub mod Policies
pub mod PolicyRuns
pub mod Bounds
pub mod Laws
