mod Examples
pub mod CallLemmas
pub mod FirstLemmas
pub mod NextLemmas
pub mod PlaceLemmas
pub mod PlainLemmas
pub mod RankLemmas
pub mod SideLemmas
pub mod SumLemmas
pub mod ViewLemmas
pub mod FiledLemmas
pub mod DepthLemmas
pub mod BestLemmas
pub mod BookLemmas
pub mod OwnLemmas
pub mod CountedLemmas
pub mod FoundLemmas
pub mod PriorityLemmas
