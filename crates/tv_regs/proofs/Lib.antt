mod Alike
mod Rooms
mod Gates
pub mod NormalLaws
mod ReadLaws
mod WriteLaws
pub mod TripleLaws
mod TripleNumbers
pub mod UpdateLaws
mod Inverses
