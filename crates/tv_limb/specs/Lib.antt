pub mod Difference
pub mod Limbs
pub mod Split
pub mod Sum
pub use Rattle.tv_core.specs.Combinations
pub use Rattle.tv_core.specs.Values
pub use Rattle.tv_core.specs.Sinks
pub use Rattle.tv_word.specs.Widths
