pub mod ArithmeticLaws
pub mod ByteLaws
pub mod DecimalLemmas
pub mod FlagLaws
mod NumeralLemmas
pub mod SignedLaws
pub mod WidthLaws
