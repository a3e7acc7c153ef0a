pub mod ListLemmas
pub mod ServeLemmas
pub mod SeatLemmas
pub mod MeetLemmas
pub mod CloseLemmas
