pub mod Words
pub mod Help
pub mod Asking
pub mod FaultLine
pub mod Endings
