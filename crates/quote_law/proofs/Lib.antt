mod Examples
pub mod WindowLemmas
