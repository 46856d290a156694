pub mod AllFaces
pub mod PlaceTables
mod FaceTables
mod CornerTables
mod Started
mod FanLaws
mod UprightLaws
pub mod ObstacleLaws
mod BesideLaws
mod BorderLaws
mod ReaderLaws
mod WriteLaws
pub mod GoneLaws
mod MergedCorners
mod MergedFaces
mod MergedTables
mod CollapseLaws
mod MergedShrink
mod FollowingLaws
