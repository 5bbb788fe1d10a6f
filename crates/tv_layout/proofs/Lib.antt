mod Blocks
pub mod Boot
mod Checked
mod Ends
mod Fill
mod FirstState
mod Limits
mod LineKinds
pub mod LinePlaces
mod Machine
mod MemoryCosts
pub mod NormalLaws
pub mod NumberPlaces
pub mod Positions
mod Run
pub mod RunLines
mod Sound
mod SpotPlaces
mod Steps
mod StepsFill
pub mod SystemSizes
pub mod Systems
mod TakenWords
pub mod Whole
