pub mod Instruction
pub mod Opcodes
pub mod Table
