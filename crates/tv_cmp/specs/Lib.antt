pub mod Compare
pub use Rattle.tv_core.specs.Values
pub use Rattle.tv_core.specs.Sinks
pub use Rattle.tv_word.specs.Widths
pub use Rattle.tv_word.specs.Word
