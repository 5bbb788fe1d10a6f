pub mod Block
pub mod Complete
pub mod Costs
pub mod Normal
pub mod Places
pub mod StepWords
pub mod Under
pub mod Values
