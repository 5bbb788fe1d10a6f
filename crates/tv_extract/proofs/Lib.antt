pub mod ExtractLaws
mod WordLaws
mod TakenLaws
