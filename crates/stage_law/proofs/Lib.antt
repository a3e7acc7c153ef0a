pub mod Deeds
pub mod Counts
pub mod Coming
pub mod Asks
pub mod Rises
pub mod Splits
pub mod Went
pub mod Places
pub mod Halting
pub mod Reading
pub mod Boards
mod Examples
