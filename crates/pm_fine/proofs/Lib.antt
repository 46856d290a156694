pub mod RootLaws
pub mod SumsBounds
pub mod FineLaws
pub mod LeastLaws
mod Balance
pub mod CutLaws
mod CramerBounds
mod CramerLaws
mod FoundLaws
mod FourthPlaces
mod FourthRows
mod LevelLaws
pub mod NearLaws
mod NormalLaws
mod QuotientLaws
mod Products
mod ReadBack
