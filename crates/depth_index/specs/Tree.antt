-- How an index keeps its sums. No public clause cites this module.
use Rattle.std.specs.Prelude.{◌≡◌, ℕ, zero, suc, ◌+◌, ◌-◌, ◌*◌, ◌/◌, ◌%◌, ◌^◌, ◌==◌, ◌<◌, ◌≤◌, List, drop, length, slice_index, sum, nat_le, if◌then◌else◌}

-- each node above the leaves has the sum of its two children; the place before the root, and what stands past the end of
-- the list, is 0
pub record IsSumTree (leaves : ℕ) (sums : List ℕ) : Type 0 where
  pub unused : slice_index sums 0 ≡ 0
  pub nodes : (k : ℕ) → 1 ≤ k → k < leaves → slice_index sums k ≡ slice_index sums (2 * k) + slice_index sums (2 * k + 1)

-- the sum of the nodes left of this one in its row, so many rows below the root: the left sister of each right child on
-- the way up to the root; past the end of the row it is the whole
unfoldable pub left_of : List ℕ → ℕ → ℕ → ℕ
left_of sums zero node = if nat_le node 1 then 0 else slice_index sums 1
left_of sums (suc rows) node =
    left_of sums rows (node / 2) + (if node % 2 == 1 then slice_index sums (node - 1) else 0)

-- the fields of an index: a tree whose last row has more places than there are quantities, and at most twice as many
pub record IsIndex (rows leaves : ℕ) (sums : List ℕ) : Type 0 where
  pub power : leaves ≡ 2 ^ rows
  pub tree : IsSumTree leaves sums
  pub some : leaves < length sums
  pub above : length sums < 2 * leaves
  pub digits : leaves + 2 * leaves ≤ 2 * length sums
  pub few : length sums ≤ leaves + 20000
  pub fits : sum (drop leaves sums) < 2 ^ 64
