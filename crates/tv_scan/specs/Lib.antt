pub mod Scan
pub use Rattle.tv_bits.specs.Zero
pub use Rattle.tv_core.specs.Combinations
pub use Rattle.tv_core.specs.Values
pub use Rattle.tv_core.specs.Sinks
pub use Rattle.tv_lines.specs.PackedLines
