pub mod Common
mod WordBytes
pub mod LookLaws
mod Flawed
pub mod ContainerReads
pub mod AnswerLaws
pub mod ClaimLaws
pub mod StreamLaws
pub mod ProgramLaws
pub mod InputLaws
pub mod AsmClaim
pub mod DisasmClaim
pub mod RunClaim
pub mod CheckClaim
mod ComesBack
pub mod TapeTexts
mod TextFaults
mod TapeFaults
