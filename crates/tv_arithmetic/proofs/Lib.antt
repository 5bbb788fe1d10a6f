pub mod ArithmeticCounts
pub mod ArithmeticFills
pub mod ArithmeticLaws
pub mod ArithmeticNumbers
pub mod NormalArithmetic
mod OpcodeCases
pub mod ShiftTests
