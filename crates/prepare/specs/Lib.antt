pub mod Words
pub mod Help
pub mod Ending
pub mod Gains
pub mod Devices
