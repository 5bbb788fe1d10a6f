pub mod Counts
pub mod Numeral
pub mod Operations
pub mod Twos
pub mod Widths
pub mod Word
