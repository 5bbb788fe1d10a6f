pub mod Laws
pub mod Settings
pub mod Shape
pub mod Stages
pub mod Walks
pub use Rattle.tv_core.specs.Values
