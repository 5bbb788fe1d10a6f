pub mod Answer
pub mod Session
pub mod Command
pub mod Owner
pub mod Calls
