pub mod BookView
pub mod Laws
pub mod Paired
pub mod Sides
