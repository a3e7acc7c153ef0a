mod ChooseLemmas
mod ReadyLemmas
mod DoneLemmas
mod ClosedLemmas
mod RunLemmas
