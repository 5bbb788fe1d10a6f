mod Difference
mod Firsts
pub mod Room
pub mod Verdicts
mod Trials
mod Worked
