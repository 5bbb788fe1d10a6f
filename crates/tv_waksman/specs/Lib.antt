pub mod Waksman
pub use Rattle.tv_benes.specs.Items
pub use Rattle.tv_benes.specs.Network
pub use Rattle.tv_benes.specs.OutputLists
pub use Rattle.tv_benes.specs.Places
pub use Rattle.tv_benes.specs.Through
pub use Rattle.tv_core.specs.Values
pub use Rattle.tv_core.specs.Sinks
