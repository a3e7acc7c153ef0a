pub mod RoomLemmas
pub mod Totals
