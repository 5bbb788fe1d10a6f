pub mod CellLaws
pub mod EndLaws
mod Examples
pub mod HonestLaws
pub mod ImageLaws
pub mod LineLaws
pub mod PlaceLaws
pub mod RangeLaws
pub mod ReadLaws
pub mod RunLaws
mod TapeLaws
mod ViewLaws
