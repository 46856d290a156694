pub mod Adapting
pub mod Aims
pub mod Showing
pub mod Holding
pub mod Finding
pub mod Deciding
pub mod Doing
pub mod Idle
