pub mod GrownLemmas
mod HeldLemmas
mod ShowLemmas
mod StopLemmas
