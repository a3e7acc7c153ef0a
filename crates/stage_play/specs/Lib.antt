pub mod Seen
pub mod Playing
pub mod Blocks
pub mod Packing
