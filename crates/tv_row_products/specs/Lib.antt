pub mod RowDivision
pub mod RowProduct
pub mod RowSignedProduct
pub use Rattle.tv_core.specs.Combinations
pub use Rattle.tv_core.specs.Values
pub use Rattle.tv_core.specs.Sinks
pub use Rattle.tv_word.specs.Widths
