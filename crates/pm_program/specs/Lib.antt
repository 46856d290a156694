pub mod Stops
pub mod Fails
pub mod Input
pub mod Endings
pub mod Making
pub mod Replies
pub mod Requests
