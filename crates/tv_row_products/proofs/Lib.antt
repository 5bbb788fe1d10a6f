pub mod DivisionCases
pub mod NormalLaws
pub mod RowDivisionLaws
mod RowDivisionNumbers
pub mod RowProductLaws
pub mod RowSignedProductLaws
pub mod SignedNumbers
