pub mod Known
pub mod Window
pub mod DigitLaws
pub mod DecimalLaws
pub mod PageLaws
pub mod PutLaws
pub mod StopLaws
