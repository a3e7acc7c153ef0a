mod Examples
pub mod FormLemmas
pub mod KeyLemmas
pub mod IssueLemmas
pub mod ListLemmas
pub mod NameLemmas
pub mod SameLemmas
