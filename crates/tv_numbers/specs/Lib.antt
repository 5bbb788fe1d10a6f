pub mod Laws
pub mod Numbers
pub mod Shown
pub mod Tables
pub mod Views
