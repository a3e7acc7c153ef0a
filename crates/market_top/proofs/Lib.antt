pub mod ReplayLemmas
pub mod StatusLemmas
pub mod VerdictLemmas
