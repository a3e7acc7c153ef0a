pub mod Served
pub mod Meeting
