pub mod Permutations
pub mod Route
pub use Rattle.tv_benes.specs.Through
