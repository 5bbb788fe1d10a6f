mod HalfLaws
mod LevelValues
mod MarkTerms
mod MaskLaws
mod ShiftLaws
mod ShiftNumbers
mod ShiftSizes
mod ThermometerLaws
