pub mod Answer
pub mod Fills
pub mod Laws
pub mod Reads
pub mod Search
pub mod Sharing
pub mod Trading
pub mod Walk
