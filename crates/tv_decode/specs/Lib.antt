pub mod Fields
pub mod Instructions
pub use Rattle.tv_core.specs.Values
pub use Rattle.tv_core.specs.Sinks
pub use Rattle.tv_isa.specs.Instruction
pub use Rattle.tv_word.specs.Widths
