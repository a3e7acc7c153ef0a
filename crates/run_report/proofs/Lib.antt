pub mod CountLemmas
mod Examples
pub mod FrontLemmas
pub mod IssueLemmas
pub mod JournalLemmas
pub mod NodeLemmas
pub mod ReportLemmas
pub mod ShownLemmas
