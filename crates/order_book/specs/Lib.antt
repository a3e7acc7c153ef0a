pub use Rattle.book_law.specs.BookView
pub mod Depths
pub mod Fields
pub mod Levels
pub mod Limits
pub mod Linked
pub mod Plain
pub mod Reads
