-- The fields of an index, and the list of quantities that they stand for.
use Rattle.std.proofs.Common.{◌≡◌, ℕ, ◌+◌, ◌-◌, ◌*◌, ◌^◌, ◌<◌, ◌≤◌, List, length, get_or, drop, take, replicate, sym, ◌∙◌, ap, subst, inl, inr, arith}
use Rattle.std.specs.List.{sum}
use Rattle.std.proofs.Math.Pow.{pow_mono}
use Rattle.std.proofs.lemmas.Bool.{cases_lt}
use Rattle.std.proofs.lemmas.List.{drop-replicate, get_or-replicate, get_or_past, length-drop, length-replicate}
use Rattle.std.proofs.lemmas.List.Folds.{sum_by-replicate}
use Rattle.std.proofs.lemmas.List.Sums.{sum_by-take-le}
use Rattle.depth_index.specs.Depths.{IsFirstReaching, IsNowhereReached, TakesFewSteps, sum_upto}
use Rattle.depth_index.specs.Tree.{IsIndex, IsSumTree, left_of}
use Rattle.depth_index.proofs.RowLemmas.{left_of-next, twice-next}
use Rattle.depth_index.proofs.SumLemmas.{left_of-leaf, root-is-sum, sum-take-rises}

module _ {rows leaves : ℕ} {sums : List ℕ} (index : IsIndex rows leaves sums) where
  -- the tree by its rows
  pub by-rows : IsSumTree (2 ^ rows) sums
  by-rows = subst (λ n. IsSumTree n sums) index.power index.tree

  -- the root has the sum of all quantities
  pub root-is : sum (drop leaves sums) ≡ get_or sums 1 0
  root-is = ap (λ n. sum (drop n sums)) index.power ∙ root-is-sum sums rows by-rows (omega (arith, index.power, index.above))

  pub size-is : length (drop leaves sums) + leaves ≡ length sums
  size-is = omega (arith, length-drop leaves sums, index.some)

  -- what stands left of a leaf is the sum of the quantities before it
  pub left_of-position : (i : ℕ) → i ≤ leaves → left_of sums rows (leaves + i) ≡ sum (take i (drop leaves sums))
  left_of-position i within =
      ap (λ n. left_of sums rows (n + i)) index.power ∙ left_of-leaf sums rows i by-rows (omega (arith, index.power))
      ∙ ap (λ n. sum (take i (drop n sums))) (sym index.power)

  pub upto-is : (i : ℕ) → i < length (drop leaves sums) → left_of sums rows (leaves + i + 1) ≡ sum_upto (drop leaves sums) i
  upto-is i inside =
      let next : leaves + i + 1 ≡ leaves + (i + 1) = omega arith in
      ap (left_of sums rows) next ∙ left_of-position (i + 1) (omega (arith, size-is, index.above))

  -- a sum up to a position is within the sum of all
  pub upto-fits : (i : ℕ) → i < length (drop leaves sums) → left_of sums rows (leaves + i + 1) < 2 ^ 64
  upto-fits i inside = omega (arith, upto-is i inside, sum_by-take-le (λ x. x) (drop leaves sums) (i + 1), index.fits)

  -- the size has at least as many binary digits as there are rows, and there is a row
  few-rows : (digits : ℕ) → length (drop leaves sums) < 2 ^ digits → rows ≤ digits
  few-rows digits small =
      elim (cases_lt digits rows) [
        | inl less ↦
            let mono : 2 ^ (digits + 1) ≤ 2 ^ rows = pow_mono (omega arith) in
            absurd (omega (arith, mono, twice-next digits, index.power, index.digits, size-is))
        | inr all ↦ all
      ]

  some-row : 1 ≤ rows
  some-row =
      elim (cases_lt rows 1) [
        | inl none ↦
            let zero_rows : rows ≡ 0 = omega arith in
            let one : 2 ^ rows ≡ 1 = ap (λ r. 2 ^ r) zero_rows in
            absurd (omega (arith, one, index.power, index.some, index.above))
        | inr some ↦ some
      ]

  -- a step a row, and one more at most
  pub steps-are-few : (before after : ℕ) → before + rows ≤ after → after ≤ before + rows + 1
      → TakesFewSteps (length (drop leaves sums)) before after
  steps-are-few before after least most =
      record { some = omega (arith, some-row); few = λ digits small. omega (arith, few-rows digits small) }

  -- a call that gives up at the root
  pub one-step : (before after : ℕ) → after ≡ before + 1 → TakesFewSteps (length (drop leaves sums)) before after
  one-step before after is = record { some = omega arith; few = λ digits small. omega arith }

  -- where all together is less, it is less up to each position
  pub nowhere : (least : ℕ) → get_or sums 1 0 < least → IsNowhereReached (drop leaves sums) least
  nowhere least less = λ k inside. omega (arith, root-is, sum_by-take-le (λ x. x) (drop leaves sums) (k + 1))

  -- the leaf that a search ends at is the first position that reaches what is sought
  pub first-is : (least leaf : ℕ) → leaves ≤ leaf → leaf < length sums → least ≤ left_of sums rows leaf + get_or sums leaf 0
      → (leaves < leaf → left_of sums rows leaf < least) → IsFirstReaching (drop leaves sums) least (leaf - leaves)
  first-is least leaf from within reached before =
      let i = leaf - leaves in
      let same : leaf ≡ leaves + i = omega arith in
      let inside : i < length (drop leaves sums) = omega (arith, size-is) in
      let left = left_of-position i (omega (arith, index.above)) in
      let here : left_of sums rows leaf ≡ sum (take i (drop leaves sums)) = ap (left_of sums rows) same ∙ left in
      let next = left_of-next sums rows leaf by-rows (omega (arith, index.power)) (omega (arith, index.power, index.above)) in
      let upto = upto-is i inside in
      let one : left_of sums rows (leaf + 1) ≡ left_of sums rows (leaves + i + 1) = ap (λ n. left_of sums rows (n + 1)) same in
      record {
        within = inside;
        reached = omega (arith, next, one, upto, reached);
        first = λ k earlier.
            let more : k + 1 + (i - (k + 1)) ≡ i = omega arith in
            let rises = sum-take-rises (drop leaves sums) (k + 1) (i - (k + 1)) in
            omega (arith, rises, ap (λ n. sum (take n (drop leaves sums))) more, here, before (omega arith));
      }

abbrev zeros : ℕ → List ℕ
zeros n = replicate n 0

get_or-zeros : (n k : ℕ) → get_or (zeros n) k 0 ≡ 0
get_or-zeros n k =
    elim (cases_lt k n) [
      | inl inside ↦ get_or-replicate {A = ℕ} n k 0 0 inside
      | inr past ↦ get_or_past (zeros n) k 0 (omega (arith, length-replicate {A = ℕ} n 0))
    ]

pub drop-zeros : (leaves size : ℕ) → drop leaves (zeros (leaves + size)) ≡ zeros size
drop-zeros leaves size =
    let rest : leaves + size - leaves ≡ size = omega arith in
    drop-replicate {X = ℕ} leaves (leaves + size) 0 ∙ ap zeros rest

-- an index of zeros
pub zeros-are-index : (rows leaves size : ℕ) → leaves ≡ 2 ^ rows → 1 ≤ size → size ≤ 20000 → size < leaves → leaves ≤ size + size
    → IsIndex rows leaves (zeros (leaves + size))
zeros-are-index rows leaves size power some few above digits =
    let all = length-replicate {A = ℕ} (leaves + size) 0 in
    let n = leaves + size in
    record {
      power = power;
      tree = record { unused = get_or-zeros n 0; nodes = λ k from below. omega (arith, get_or-zeros n k, get_or-zeros n (2 * k), get_or-zeros n (2 * k + 1)) };
      some = omega (arith, all);
      above = omega (arith, all);
      digits = omega (arith, all);
      few = omega (arith, all);
      fits = omega (arith, ap sum (drop-zeros leaves size), sum_by-replicate (λ x. x) size 0);
    }
