pub mod Fronts
pub mod LastPass
pub mod AtEnd
pub mod Fullness
pub mod Ended
