pub mod Words
pub mod Help
pub mod Coat
pub mod Texts
pub mod Lines
pub mod Streams
pub mod Making
pub mod FaultLine
