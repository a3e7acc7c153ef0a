mod Examples
pub mod IndexLemmas
pub mod RowLemmas
pub mod SumLemmas
pub mod WriteLemmas
