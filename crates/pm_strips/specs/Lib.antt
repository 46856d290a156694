pub mod Strips
pub mod Shown
pub mod Texts
pub mod Laws
