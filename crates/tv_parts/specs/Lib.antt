pub mod Flag
pub mod Memory
pub mod Written
