pub mod Depths
pub mod Tree
