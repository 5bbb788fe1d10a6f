pub mod Extraction
pub mod Runs
pub use Rattle.tv_core.specs.Constraints
pub use Rattle.tv_layout.specs.Layout
pub use Rattle.tv_layout.specs.Places
pub use Rattle.tv_layout.specs.Systems
pub use Rattle.tv_step.specs.Machine
pub use Rattle.tv_step.specs.Reads
