pub mod Words
pub mod Help
pub mod Making
pub mod FaultLine
