pub mod Commands
pub mod Faults
pub mod Generated
pub mod Orders
pub mod Own
pub mod Reader
pub mod Script
pub mod Words
