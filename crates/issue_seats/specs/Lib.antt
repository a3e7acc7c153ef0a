pub mod Seats
pub mod Back
pub mod Steps
