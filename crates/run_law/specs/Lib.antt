pub mod Laws
pub mod Replayed
pub mod Run
