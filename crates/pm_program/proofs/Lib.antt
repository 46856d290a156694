pub mod InputLaws
pub mod EndingLaws
pub mod MakingLaws
