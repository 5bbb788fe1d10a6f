mod Constraints
mod Files
mod Finish
pub mod Others
mod Rows
pub mod Sizes
mod Systems
pub mod StreamLaws
