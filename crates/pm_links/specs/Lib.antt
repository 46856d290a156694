pub mod Arena
pub mod Dealt
pub mod Lists
