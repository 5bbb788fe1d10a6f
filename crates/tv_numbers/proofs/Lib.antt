pub mod Cases
mod Examples
pub mod LineRows
mod NextRows
mod OldRows
pub mod RangeLaws
mod ReadRow
pub mod ShownLaws
pub mod StepLaws
