mod Cases
pub mod TableLemmas
