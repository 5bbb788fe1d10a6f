pub mod AnyDistance
pub mod DigitLaws
pub mod DigitNumbers
pub mod NormalDigits
pub mod NormalShifts
pub mod NormalSums
pub mod PowerLaws
mod PowerNumbers
pub mod RowDifferenceLaws
mod RowDifferenceNumbers
pub mod RowShiftLaws
mod RowShiftNumbers
pub mod RowSumLaws
