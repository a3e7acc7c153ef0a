mod Examples
pub mod Pairs
pub mod Sides
pub mod Views
pub mod SideSums
pub mod PlaceLemmas
pub mod TakenLemmas
pub mod PairLemmas
pub mod Pairing
pub mod FrontLemmas
pub mod TimeLemmas
pub mod DrainLemmas
pub mod AheadLemmas
pub mod LeftLemmas
