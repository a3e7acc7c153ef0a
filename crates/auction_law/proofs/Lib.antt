mod Examples
pub mod NearnessLemmas
pub mod SumsLemmas
pub mod MeetsLemmas
pub mod CalmBookLemmas
pub mod TradedLemmas
pub mod PressedLemmas
pub mod LawLemmas
pub mod AttemptLemmas
pub mod WalkLemmas
pub mod ChoiceLemmas
pub mod CalmLemmas
pub mod LevelLemmas
