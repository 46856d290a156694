pub mod UnitLaws
pub mod FormatLaws
