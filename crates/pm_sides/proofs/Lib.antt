-- for callers: the sides and faces of records, the nodes that they split, and what is read of the
-- table
pub mod RecordSides
pub mod SideLaws
pub mod FirstLaws
pub mod SplitNodeLaws
pub mod ReadLaws
-- the full front, and the way down from it
pub mod FullTable
pub mod LoweringLaws
-- each table, and what the table of sides is after a write
mod InnerLaws
mod OuterSides
mod StoredLaws
mod CollapseLaws
mod FaceLaws
mod ToldLaws
