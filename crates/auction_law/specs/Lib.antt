pub use Rattle.mkt_base.specs.Book
pub use Rattle.mkt_base.specs.Certificate
pub use Rattle.mkt_base.specs.Text
pub mod Attempt
pub mod Laws
pub mod Levels
pub mod Nearness
