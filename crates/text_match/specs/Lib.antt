pub mod Lines
pub mod Matched
pub mod Verdicts
