pub mod Held
pub mod Places
pub mod Progress
pub mod R1cs
pub mod Rows
pub mod Steps
pub mod Sums
pub mod Survey
