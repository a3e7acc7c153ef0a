pub mod Arrival
pub mod Laws
pub mod Walk
