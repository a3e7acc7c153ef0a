pub mod Examples
pub mod SlotLemmas
