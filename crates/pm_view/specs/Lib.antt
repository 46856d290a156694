pub mod Views
pub mod Fields
pub mod Wanted
pub mod Laws
