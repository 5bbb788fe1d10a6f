pub mod Outside
pub mod Calls
pub mod Refusals
pub mod Whole
pub mod MemFiles
