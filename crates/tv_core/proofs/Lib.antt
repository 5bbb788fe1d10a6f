pub mod Addition
pub mod ApartLaws
pub mod BelowLaws
pub mod Chain
pub mod CombinationLaws
pub mod Common
pub mod DifferenceLaws
mod Euclid
pub mod FieldLaws
mod Fits
pub mod HasLaws
pub mod InverseLaws
pub mod JoinedLaws
pub mod LineLaws
pub mod LoopLaws
pub mod MeetsLaws
pub mod NormalCircuits
pub mod NormalLaws
mod Pigeonhole
pub mod PrimeLaws
mod PrimeProof
pub mod Residues
pub mod Rooms
mod RowLaws
mod TestLaws
pub mod Unique
pub mod ValuesChain
