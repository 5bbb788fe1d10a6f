pub mod Ahead
pub mod Constraints
pub mod Done
pub mod HeaderLemmas
mod Vectors
mod Sums
mod Failures
mod StepLemmas
mod HeldLemmas
