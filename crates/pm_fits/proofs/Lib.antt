mod ClampLaws
mod PlaceLaws
mod BoundLaws
mod TotalLaws
mod RangeLaws
mod NumberLaws
mod FitLaws
mod ChannelLaws
