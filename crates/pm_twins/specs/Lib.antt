pub mod Table
pub mod Faults
pub mod Whole
pub mod SideLists
pub mod Stamping
pub mod Walks
pub mod Laws
pub mod Surface
