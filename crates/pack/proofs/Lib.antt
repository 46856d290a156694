pub mod MadeLaws
pub mod FaultLaws
