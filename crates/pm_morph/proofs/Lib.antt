pub mod ElderLaws
pub mod LeastLaws
pub mod InterpolationLaws
pub mod MarkLaws
pub mod FaceLaws
pub mod GeomorphLaws
