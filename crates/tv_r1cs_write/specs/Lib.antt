pub mod Bytes
pub mod Labels
pub mod Laws
pub mod Narrow
pub mod Streams
pub mod Shrunken
