pub mod Text
pub mod Feeding
pub mod Cuttings
pub mod Rules
pub mod Fails
pub mod Reading
