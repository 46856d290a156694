pub mod Rounded
pub mod Normals
pub mod FinePlanes
pub mod FineSums
pub mod FinePlaces
pub mod Within
pub mod Fourth
pub mod FourthLaws
