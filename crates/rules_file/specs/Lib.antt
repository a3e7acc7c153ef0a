pub mod Faults
pub mod Forms
pub mod Indexed
pub mod Issues
pub mod Keys
pub mod Rules
