-- What a member has read in rounds.
use Rattle.std.specs.Prelude.{◌≡◌, ℕ, ◌+◌, ◌<◌, ◌≤◌, List, slice_index_or}

-- what a member has read
pub record Readings (V : Type 0) : Type 0 where
  pub values : List V
  -- for how many values there is room in all
  pub room : ℕ

module _ {X : Type 0} where
  -- at so many places from the first of them on the values are as they were
  abbrev pub Keeps : ℕ → ℕ → List X → List X → Type 0
  Keeps first many old new = (place : ℕ) (v : X) → first ≤ place → place < first + many → slice_index_or new place v ≡ slice_index_or old place v
