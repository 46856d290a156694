pub mod StripLaws
pub mod TakenLaws
pub mod ShownLaws
pub mod SideLaws
pub mod Entering
pub mod Stripping
