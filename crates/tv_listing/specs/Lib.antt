pub mod Laws
pub mod Listing
pub mod Row
