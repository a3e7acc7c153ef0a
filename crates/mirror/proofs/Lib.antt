pub mod Catching
pub mod Copies
pub mod Examples
pub mod Holding
pub mod Keeping
pub mod Putting
