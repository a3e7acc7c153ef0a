mod Examples
pub mod Lists
pub mod Staged
pub mod Stages
pub mod Halts
pub mod Shows
pub mod RunLemmas
