pub mod Kept
pub mod Reading
pub mod Reports
pub mod State
pub mod Told
