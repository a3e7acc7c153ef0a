mod Examples
pub mod SortLemmas
pub mod RoundLemmas
pub mod LawLemmas
pub mod OrderLemmas
pub mod UnitLemmas
