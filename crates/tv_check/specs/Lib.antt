pub mod Verdict
pub mod Meaning
pub use Rattle.tv_core.specs.Constraints
pub use Rattle.tv_r1cs_read.specs.R1cs
pub use Rattle.tv_container.specs.Reading
