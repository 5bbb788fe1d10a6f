mod Numbers
mod Range
pub mod Narrow
pub mod Texts
mod Worked
