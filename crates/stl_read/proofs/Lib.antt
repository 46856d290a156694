pub mod VertexLaws
pub mod NumberLaws
pub mod RecentLaws
pub mod FacetLaws
pub mod LineLaws
