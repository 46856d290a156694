-- for callers: one list, a table, the lists after each call, a walk, a list that is dealt to two
-- others
pub mod Members
pub mod Without
pub mod SetAll
pub mod Calls
pub mod Walking
pub mod Dealing
-- what a write to the links does to a run of nodes, and each call to the arena
mod Runs
mod Outside
mod Pushed
mod Unlinked
mod Moved
mod Started
mod Walks
mod Readers
-- what two walks copy to a room
mod Copying
