pub mod NormalPc
pub mod NormalResults
pub mod PcFills
mod PcLaws
pub mod ResultFills
mod ResultLaws
