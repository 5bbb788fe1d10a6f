mod Ahead
mod Firsts
mod Sections
pub mod ValueLaws
mod Vectors
mod Takers
mod Finish
mod Files
pub mod StreamLaws
