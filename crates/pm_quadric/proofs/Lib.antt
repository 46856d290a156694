pub mod Expansion
pub mod PlaneBounds
pub mod SumsBounds
pub mod QuadricLaws
pub mod Words
pub mod ReadBack
pub mod Evaluated
