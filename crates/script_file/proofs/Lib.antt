mod CommandLemmas
mod Examples
mod GeneratedExamples
pub mod GeneratorLemmas
mod OrderLemmas
mod ReaderLemmas
mod ScriptLemmas
