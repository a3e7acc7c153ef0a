pub mod Desk
pub mod Sound
pub mod Closed
