-- Where a position stands to the run of prices that meet the three conditions.
use Rattle.std.specs.Prelude.{◌≡◌, ℕ, ◌<◌, ◌≤◌, Bool, true, false, ◌&&◌, ◌||◌, List, nat_le, nat_lt}
use Rattle.mkt_base.specs.declared.auction.Sums.{Sums}
use Rattle.mkt_base.specs.declared.units.Price.{Price}
use Rattle.book_law.specs.BookView.{BookView}
use Rattle.itayose.specs.Walk.{sums_of}
use Rattle.itayose.specs.declared.search.End.{End}
use Rattle.itayose.specs.declared.search.End.TheVariants.{Lower, Upper}

-- At or above the lower end something is sold, and at least what is bought above. Above the upper end nothing is bought, or less
-- than is sold below.
abbrev pub is_past : End → Sums → Bool
is_past Lower s = nat_le 1 s.sells && nat_le s.above s.sells
is_past Upper s = nat_lt s.buys 1 || nat_lt s.buys s.below

-- the first position past an end from one position on; another one where none before it is
pub record IsFirstPast (b : BookView) (grid : List Price) (end : End) (from to i : ℕ) : Type 0 where
  pub after : from ≤ i
  pub within : i ≤ to
  pub before : (k : ℕ) → from ≤ k → k < i → is_past end (sums_of b grid k) ≡ false
  pub past : i < to → is_past end (sums_of b grid i) ≡ true
