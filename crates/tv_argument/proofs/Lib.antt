pub mod CheckCosts
pub mod Complete
pub mod Costs
mod Counts
mod FewTerms
pub mod FillingLaws
mod Honesty
mod Increase
mod Made
pub mod NormalLaws
mod Order
pub mod Parts
mod Previous
pub mod Reached
mod Reordered
mod Sizes
pub mod Sound
mod Written
