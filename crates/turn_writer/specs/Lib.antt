pub mod Losses
pub mod Went
pub mod Writing
