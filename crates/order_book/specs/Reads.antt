-- Sums that were read, as a counter of steps shows them.
use Rattle.std.specs.Prelude.{ℕ}
use Rattle.depth_index.specs.Depths.{TakesFewSteps}

-- two sum reads over so many positions
pub record TakesTwoReads (size before after : ℕ) : Type 0 where
  pub between : ℕ
  pub first : TakesFewSteps size before between
  pub second : TakesFewSteps size between after
