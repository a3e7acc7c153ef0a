mod Examples
pub mod AllotLemmas
pub mod AnswerLemmas
pub mod AskingLemmas
pub mod BestLemmas
pub mod FairLemmas
pub mod FillingLemmas
pub mod LawLemmas
pub mod ReadLemmas
pub mod RoundsLemmas
pub mod RunLemmas
pub mod SettleLemmas
pub mod ShareLemmas
pub mod SharingLemmas
pub mod SumLemmas
pub mod TellingLemmas
pub mod TradingLemmas
pub mod WalkLemmas
