pub mod Fixed
pub mod Borders
pub mod Laws
pub mod RunLaws
