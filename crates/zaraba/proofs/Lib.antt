mod Examples
pub mod ArrivingLemmas
pub mod CalmLemmas
pub mod CrossedLemmas
pub mod DoneLemmas
pub mod EachLemmas
pub mod NextLemmas
pub mod PriceLawLemmas
pub mod ShareLawLemmas
pub mod WalkLemmas
