pub use Rattle.mkt_base.specs.Book
pub use Rattle.auction_law.specs.Attempt
pub use Rattle.auction_law.specs.Nearness
pub mod True
