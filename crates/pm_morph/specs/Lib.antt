pub mod Elders
pub mod Interpolation
pub mod Marks
pub mod Texts
pub mod Laws
