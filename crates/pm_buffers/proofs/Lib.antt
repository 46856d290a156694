pub mod TableLaws
pub mod ChangeLaws
pub mod CountLaws
pub mod FewestLaws
