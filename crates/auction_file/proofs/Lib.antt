mod EvenGridLemmas
mod LeftLemmas
mod OrderLemmas
mod ReaderLemmas
mod SlotLemmas
