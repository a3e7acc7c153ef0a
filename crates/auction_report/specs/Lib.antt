pub use Rattle.mkt_base.specs.Book
pub use Rattle.mkt_base.specs.Certificate
pub mod Shown
