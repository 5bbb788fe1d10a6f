mod Order
mod Rows
pub mod Traces
