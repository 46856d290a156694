pub mod Needed
pub mod Candidates
