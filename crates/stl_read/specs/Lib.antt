pub mod Vertices
pub mod Numbering
pub mod Refusals
pub mod Binary
pub mod Recent
pub mod Ascii
pub mod Stl
pub mod Meaning
