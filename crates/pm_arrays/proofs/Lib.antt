pub mod PositionLaws
pub mod ArrayLaws
pub mod StoreLaws
