pub mod Issue
pub mod Report
pub mod Reported
pub mod Summed
pub mod Watched
