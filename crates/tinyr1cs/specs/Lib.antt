pub mod Complaint
pub mod Ends
