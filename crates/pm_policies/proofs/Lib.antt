pub mod PlanesTaken
pub mod FirstSurfaces
pub mod PlaneCounts
pub mod Keys
pub mod OneRun
pub mod Building
pub mod SomeRuns
pub mod PlainKeeping
