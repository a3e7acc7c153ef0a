pub mod FormLemmas
pub mod FrontLemmas
pub mod JudgeLemmas
pub mod LineLemmas
pub mod MatchLemmas
pub mod WordLemmas
