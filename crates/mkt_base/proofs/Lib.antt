mod Examples
pub mod FillLemmas
pub mod PriorityLemmas
pub mod TradeLemmas
