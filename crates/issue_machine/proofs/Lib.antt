mod Examples
pub mod OrderLemmas
pub mod BoundaryLemmas
pub mod MoveLemmas
pub mod DueLemmas
pub mod AdvanceLemmas
pub mod EventLemmas
pub mod HistoryLemmas
