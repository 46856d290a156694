pub mod CoatLaws
pub mod LineLaws
pub mod PartLaws
pub mod StreamLaws
pub mod MadeLaws
