pub mod WordsLaws
pub mod EndingLaws
