pub use Rattle.mkt_base.specs.Book
pub use Rattle.mkt_base.specs.Certificate
pub use Rattle.auction_law.specs.Attempt
pub use Rattle.auction_law.specs.Nearness
pub use Rattle.auction_check.specs.True
pub mod Walk
