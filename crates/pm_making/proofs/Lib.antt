pub mod EndLaws
pub mod PackingLaws
