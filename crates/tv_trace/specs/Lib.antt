pub mod Before
pub mod Line
pub mod Trace
