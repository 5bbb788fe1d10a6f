mod AssemblyLemmas
pub mod FirstLemmas
mod HeaderLemmas
mod LabelLemmas
mod LanguageLaws
pub mod OperandLemmas
pub mod RangeLemmas
pub mod TextLemmas
