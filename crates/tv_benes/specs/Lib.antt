pub mod Items
pub mod Network
pub mod OutputLists
pub mod Places
pub mod Through
pub use Rattle.tv_core.specs.Combinations
pub use Rattle.tv_core.specs.Values
pub use Rattle.tv_core.specs.Sinks
