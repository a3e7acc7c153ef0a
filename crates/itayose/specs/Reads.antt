-- Sum reads of a book that are counted, as a counter of steps shows them.
use Rattle.std.specs.Prelude.{◌≡◌, ℕ, zero, suc, ◌≤◌}
use Rattle.mkt_base.specs.declared.order.Side.TheVariants.{Buy, Sell}
use Rattle.depth_index.specs.Depths.{TakesFewSteps}
use Rattle.itayose.specs.declared.positions.Attempt.{Attempt}
use Rattle.itayose.specs.declared.positions.Attempt.TheVariants.{Traded, Calm, Pressed}

-- so many sum reads, one after another, over so many positions
unfoldable pub MakesReads : ℕ → ℕ → ℕ → ℕ → Type 0
MakesReads size zero before after = before ≡ after
MakesReads size (suc n) before after = (between : ℕ) × TakesFewSteps size before between × MakesReads size n between after

-- no fewer sum reads than one number, and no more than another
pub record ReadsWithin (size least most before after : ℕ) : Type 0 where
  pub count : ℕ
  pub enough : least ≤ count
  pub few : count ≤ most
  pub made : MakesReads size count before after

-- the sum reads that an answer is not known without: two at each end of the window that was looked at, and two at the price
-- where it trades
abbrev pub least_reads : Attempt → ℕ
least_reads (Calm bid ask) = 0
least_reads (Pressed Buy) = 2
least_reads (Pressed Sell) = 4
least_reads (Traded at volume) = 6
