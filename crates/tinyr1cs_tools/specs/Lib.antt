pub mod Print
pub mod Sizes
pub mod Tools
pub mod Trace
