mod Bounds
mod ColumnChain
pub mod EndLaws
mod NetworkChain
mod NetworkComplete
mod NetworkLaws
mod NormalLaws
pub mod Permutations
mod Sizes
mod Sources
pub mod ThroughLaws
