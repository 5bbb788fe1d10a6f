mod ByConstants
mod Constants
mod Elements
mod Gone
mod Labels
mod LayLaws
mod Linear
mod Merges
mod OccurrenceLaws
mod PassLaws
mod Passes
mod Puts
mod Read
mod ReplacingLaws
mod Settlement
pub mod Solutions
mod SortLaws
mod Spans
mod States
pub mod Whole
