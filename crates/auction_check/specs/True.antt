-- When a certificate is that of an attempt over these orders, and what it then shows.
use Rattle.std.specs.Prelude.{◌≡◌, ◌<◌, ◌≤◌, ℕ, true, false, List, length, IsTrue, Contains}
use Rattle.mkt_base.specs.Book.{price_at}
use Rattle.mkt_base.specs.declared.auction.Outcome.TheVariants.{Traded}
use Rattle.mkt_base.specs.declared.auction.Sums.{Sums}
use Rattle.mkt_base.specs.declared.order.Order.{Order}
use Rattle.mkt_base.specs.declared.units.Price.{Price}
use Rattle.auction_law.specs.Attempt.{IsAttempt, certificate_of, meets}
use Rattle.auction_law.specs.Nearness.{is_nearer, prices_of}
use Rattle.auction_check.specs.declared.certificate.Certificate.{Certificate}

-- Its window lies on the grid and holds the reference; its outcome is that of the attempt; and the prices that it rules out are, with
-- their sums, those that the attempt's certificate rules out.
pub record IsTrueCertificate (grid : List Price) (orders : List Order) (c : Certificate) : Type 0 where
  pub from_lo : c.lo ≤ c.reference
  pub to_hi : c.reference ≤ c.hi
  pub on_grid : c.hi < length grid
  pub outcome_is : IsAttempt grid orders (price_at grid c.reference) (price_at grid c.lo) (price_at grid c.hi) c.outcome
  pub rejected_are : c.rejected ≡ (certificate_of grid orders (price_at grid c.reference) c.outcome).rejected

-- a true certificate decides: its price is one of the grid and meets the conditions, and no nearer one does
abbrev pub TrueCertificateDecides : Type 0
TrueCertificateDecides = (grid : List Price) (orders : List Order) (c : Certificate) (volume : ℕ) (sums : Sums) → IsTrueCertificate grid orders c → c.outcome ≡ Traded volume sums
    → Contains (prices_of grid) sums.price.0 × IsTrue (meets grid orders sums.price.0)
    × ((q : ℕ) → Contains (prices_of grid) q → is_nearer (price_at grid c.reference) q sums.price.0 ≡ true → meets grid orders q ≡ false)
