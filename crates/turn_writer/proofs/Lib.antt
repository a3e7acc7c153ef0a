pub mod Behind
pub mod Crashing
mod Examples
pub mod Going
pub mod Joining
pub mod Losing
pub mod Recording
pub mod Removing
pub mod Slots
pub mod Turning
pub mod Whole
