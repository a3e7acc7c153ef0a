pub mod ByteLemmas
pub mod CheckLemmas
pub mod CodecLemmas
pub mod Examples
pub mod FieldLemmas
