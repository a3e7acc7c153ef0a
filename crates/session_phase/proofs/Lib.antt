pub mod SessionLemmas
mod Examples
