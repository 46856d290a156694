pub mod ShownNets
pub mod Held
pub mod MergedShown
pub mod InnerSides
pub mod SplitSteps
pub mod SameSets
pub mod FirmFronts
