mod FieldsLaws
pub mod InstructionLaws
pub mod NormalLaws
mod Rooms
