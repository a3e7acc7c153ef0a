-- The sums of a list, by the nodes of its tree.
use Rattle.std.proofs.Common.{◌≡◌, ℕ, zero, suc, ◌+◌, ◌*◌, ◌^◌, ◌≤◌, List, length, get_or, drop, take, ◌∙◌, ap, inl, inr, arith}
use Rattle.std.specs.List.{sum}
use Rattle.std.proofs.lemmas.Bool.{cases_lt}
use Rattle.std.proofs.lemmas.List.{get_or-drop, get_or_past, take_all, length-drop}
use Rattle.std.proofs.lemmas.List.Sums.{sum_by_more}
use Rattle.depth_index.specs.Tree.{IsSumTree, left_of}
use Rattle.depth_index.proofs.RowLemmas.{left_of-first, left_of-next, left_of-whole}

-- one more position, also past the end, where a quantity is 0
pub sum-take-more : (xs : List ℕ) (i : ℕ) → sum (take (i + 1) xs) ≡ sum (take i xs) + get_or xs i 0
sum-take-more xs i =
    elim (cases_lt i (length xs)) [
      | inl inside ↦ sum_by_more (λ x. x) xs i 0 inside
      | inr past ↦
          let more : take (i + 1) xs ≡ xs = take_all (i + 1) xs (omega arith) in
          let all : take i xs ≡ xs = take_all i xs past in
          omega (arith, ap sum more, ap sum all, get_or_past xs i 0 past)
    ]

-- a sum up to an earlier position is no greater
pub sum-take-rises : (xs : List ℕ) (i more : ℕ) → sum (take i xs) ≤ sum (take (i + more) xs)
sum-take-rises xs i zero = let same : i + 0 ≡ i = omega arith in omega (arith, ap (λ n. sum (take n xs)) same)
sum-take-rises xs i (suc more) =
    let next : i + suc more ≡ i + more + 1 = omega arith in
    omega (arith, ap (λ n. sum (take n xs)) next, sum-take-more xs (i + more), sum-take-rises xs i more)

-- the nodes left of a leaf have the sum of the quantities before it
pub left_of-leaf : (sums : List ℕ) (rows i : ℕ) → IsSumTree (2 ^ rows) sums → i ≤ 2 ^ rows
    → left_of sums rows (2 ^ rows + i) ≡ sum (take i (drop (2 ^ rows) sums))
left_of-leaf sums rows zero tree within =
    let same : 2 ^ rows + 0 ≡ 2 ^ rows = omega arith in ap (left_of sums rows) same ∙ left_of-first sums rows
left_of-leaf sums rows (suc i) tree within =
    let next : 2 ^ rows + suc i ≡ 2 ^ rows + i + 1 = omega arith in
    let one : suc i ≡ i + 1 = omega arith in
    let quantities = drop (2 ^ rows) sums in
    omega (
      arith,
      ap (left_of sums rows) next,
      left_of-next sums rows (2 ^ rows + i) tree (omega arith) (omega arith),
      left_of-leaf sums rows i tree (omega arith),
      ap (λ n. sum (take n quantities)) one,
      sum-take-more quantities i,
      get_or-drop (2 ^ rows) sums i 0,
    )

-- the root has the sum of all
pub root-is-sum : (sums : List ℕ) (rows : ℕ) → IsSumTree (2 ^ rows) sums → length sums ≤ 2 * 2 ^ rows
    → sum (drop (2 ^ rows) sums) ≡ get_or sums 1 0
root-is-sum sums rows tree short =
    let quantities = drop (2 ^ rows) sums in
    let all : take (2 ^ rows) quantities ≡ quantities =
    take_all (2 ^ rows) quantities (omega (arith, length-drop (2 ^ rows) sums)) in
    let double : 2 * 2 ^ rows ≡ 2 ^ rows + 2 ^ rows = omega arith in
    omega (
      arith,
      ap sum all,
      left_of-leaf sums rows (2 ^ rows) tree (omega arith),
      ap (left_of sums rows) double,
      left_of-whole sums rows,
    )
