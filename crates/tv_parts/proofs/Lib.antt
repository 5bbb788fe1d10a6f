pub mod FlagFills
mod FlagLaws
pub mod MemoryFills
mod MemoryLaws
pub mod NormalFlag
pub mod NormalMemory
pub mod NormalWritten
pub mod WrittenFills
