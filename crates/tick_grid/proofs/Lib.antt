pub mod MultipleLemmas
pub mod RowLemmas
pub mod GridLemmas
pub mod StepLemmas
pub mod EndLemmas
mod Examples
