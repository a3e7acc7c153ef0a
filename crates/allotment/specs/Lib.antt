pub mod Allotment
pub mod Laws
pub mod Rounds
pub mod Sorting
