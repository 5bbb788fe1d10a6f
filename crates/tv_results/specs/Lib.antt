pub mod Pc
