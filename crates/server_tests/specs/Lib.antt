pub mod Submitting
pub mod Replaying
