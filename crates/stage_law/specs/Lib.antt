pub mod Come
pub mod Played
pub mod Laws
