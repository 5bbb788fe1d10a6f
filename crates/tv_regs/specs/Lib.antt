pub mod ProductPlus
pub mod Reads
pub mod Writes
pub mod Triple
pub mod Update
