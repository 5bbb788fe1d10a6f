pub mod FromSorts
mod Halves
mod PairLaws
pub mod RouteLaws
mod Seen
mod Steps
mod Walks
