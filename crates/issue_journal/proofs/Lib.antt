pub mod AdoptedLemmas
pub mod Adopting
pub mod Beginning
pub mod Counting
pub mod Entering
mod Examples
pub mod FewLemmas
pub mod Following
pub mod Halting
pub mod Leaving
pub mod Losing
pub mod Meeting
pub mod ReadLemmas
pub mod Replaying
pub mod Turning
pub mod Whole
pub mod Working
