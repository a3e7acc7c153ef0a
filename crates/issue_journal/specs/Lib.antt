pub use Rattle.rules_file.specs.Rules
pub mod Adopted
pub mod Inside
pub mod Issue
pub mod Laws
pub mod Reading
pub mod Turned
