mod Examples
pub mod DecimalLemmas
pub mod EndsLemmas
pub mod FirstLemmas
pub mod KnownLemmas
pub mod LineLemmas
pub mod MaskLemmas
pub mod MemoryLemmas
pub mod PrintedLemmas
pub mod PrintsLemmas
pub mod ReadLemmas
pub mod ShelfLemmas
pub mod SideLemmas
pub mod TextLemmas
pub mod TimeLemmas
pub mod WordLemmas
mod PairLemmas
