pub mod FilledLemmas
pub mod FloorLemmas
pub mod QuotedLemmas
pub mod StartLemmas
pub mod ToldLemmas
