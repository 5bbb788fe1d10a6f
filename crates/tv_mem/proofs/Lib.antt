mod PageLaws
mod StoreLaws
pub mod WordLaws
