pub mod Expansion
pub mod Places
pub mod Matching
