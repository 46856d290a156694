pub mod OneRun
pub mod Building
pub mod KeepingNone
