pub mod CauseLaws
pub mod LineLaws
pub mod MeasuringLaws
