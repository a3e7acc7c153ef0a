mod Examples
pub mod CalmLemmas
pub mod CloseLemmas
pub mod ClosingLemmas
pub mod FieldLemmas
pub mod FilledLemmas
pub mod GridLemmas
pub mod HoldLemmas
pub mod LimitLemmas
pub mod SlotLemmas
pub mod UnitLemmas
