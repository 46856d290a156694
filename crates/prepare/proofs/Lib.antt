pub mod EndingLaws
pub mod FitLaws
pub mod StayLaws
pub mod WordLaws
