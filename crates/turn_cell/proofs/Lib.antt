pub mod Sums
pub mod Marks
pub mod Lines
pub mod Turning
pub mod Counting
pub mod Sharing
pub mod Ending
pub mod Seeing
mod Examples
