use Rattle.std.proofs.Common.{◌≡◌, ℕ, ◌-◌, ◌^◌, ◌<◌, ◌≤◌, true, false}
use Rattle.itayose.specs.Search.{is_past}
use Rattle.itayose.specs.Walk.{sums_of}
use Rattle.itayose.proofs.ReadLemmas.{IsHalved}
use Rattle.itayose.proofs.search.first_past.Given as goal

-- no position before `low` is past the end, `high` is, and with each two reads what is left to search was halved
abbrev pub invariant-loop-low : goal.invariant-loop-low
invariant-loop-low g l = record {
  after : l.from ≤ l.low;
  order : l.low ≤ l.high;
  within : l.high ≤ l.to;
  before : (k : ℕ) → l.from ≤ k → k < l.low → is_past l.end (sums_of l.book l.grid k) ≡ false;
  past : l.high < l.to → is_past l.end (sums_of l.book l.grid l.high) ≡ true;
  reads : (halvings : ℕ) → l.to - l.from < 2 ^ halvings → IsHalved l.book.prices halvings l.fn.steps l.steps (l.high - l.low);
}

abbrev pub decreases-loop-low : goal.decreases-loop-low
decreases-loop-low g l = l.high - l.low
