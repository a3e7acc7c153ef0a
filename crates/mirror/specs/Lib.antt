pub mod Calls
pub mod Members
pub mod Mirrored
pub mod Replicas
