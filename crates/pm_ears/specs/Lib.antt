pub mod Areas
pub mod Fans
pub mod Planes
pub mod Ears
pub mod Cutting
pub mod Recutting
pub mod Counted
pub mod Laws
