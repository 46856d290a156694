pub mod SumLaws
pub mod MeanLaws
pub mod FrontSums
pub mod ChannelLaws
