pub mod KeyOrder
pub mod EntryLaws
pub mod LeastLaws
mod ItemOrder
mod SiftUp
mod SiftDown
mod Members
mod NewKey
mod EntryTables
mod TableLaws
mod PartLaws
mod LeastAtRoot
