pub mod Doing
mod Examples
pub mod Lines
pub mod Pairs
pub mod Running
pub mod Serving
