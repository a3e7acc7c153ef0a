pub mod SeenLemmas
pub mod Meeting
pub mod Recording
pub mod Showing
mod Examples
