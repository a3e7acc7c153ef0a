-- What stands left of a node in its row.
use Rattle.std.proofs.Common.{◌≡◌, ℕ, zero, suc, ◌+◌, ◌-◌, ◌*◌, ◌/◌, ◌%◌, ◌^◌, ◌<◌, ◌≤◌, List, length, get_or, cond, eqb, refl, sym, ◌∙◌, ap, subst, inl, inr, arith}
use Rattle.std.proofs.lemmas.Bool.{cases_lt}
use Rattle.std.proofs.Math.Nat.{pow-suc}
use Rattle.std.proofs.lemmas.Nat.{pow_pos}
use Rattle.std.proofs.Math.Pow.{pow_mono}
use Rattle.std.proofs.lemmas.List.{get_or_past}
use Rattle.depth_index.specs.Tree.{IsSumTree, left_of}

-- a row has twice as many places as the row above it
pub twice : (row : ℕ) → 2 ^ (suc row) ≡ 2 * 2 ^ row
twice row = omega (arith, pow-suc 2 row)

pub twice-next : (row : ℕ) → 2 ^ (row + 1) ≡ 2 * 2 ^ row
twice-next row = let next : row + 1 ≡ suc row = omega arith in ap (λ r. 2 ^ r) next ∙ twice row

-- a left child has on its left what its parent has
pub left_of-even : (sums : List ℕ) (row m : ℕ) → left_of sums (suc row) (2 * m) ≡ left_of sums row m
unfolding left_of
left_of-even sums row m =
    let half : (2 * m) / 2 ≡ m = omega arith in
    let even : (2 * m) % 2 ≡ 0 = omega arith in
    rw (half, even) (omega arith)

-- a right child has its sister there too
pub left_of-odd : (sums : List ℕ) (row m : ℕ) → left_of sums (suc row) (2 * m + 1) ≡ left_of sums row m + get_or sums (2 * m) 0
unfolding left_of
left_of-odd sums row m =
    let half : (2 * m + 1) / 2 ≡ m = omega arith in
    let odd : (2 * m + 1) % 2 ≡ 1 = omega arith in
    let before : 2 * m + 1 - 1 ≡ 2 * m = omega arith in
    rw (half, odd, before) refl

-- a tree is one too with fewer rows
pub narrower : {wide narrow : ℕ} {sums : List ℕ} → IsSumTree wide sums → narrow ≤ wide → IsSumTree narrow sums
narrower tree less = record { unused = tree.unused; nodes = λ k from below. tree.nodes k from (omega arith) }

next-even : (sums : List ℕ) (row m : ℕ) → left_of sums (suc row) (2 * m + 1) ≡ left_of sums (suc row) (2 * m) + get_or sums (2 * m) 0
next-even sums row m = left_of-odd sums row m ∙ ap (λ n. n + get_or sums (2 * m) 0) (sym (left_of-even sums row m))

next-odd : (sums : List ℕ) (row m : ℕ) → IsSumTree (2 ^ suc row) sums → 1 ≤ m → m < 2 ^ suc row
    → left_of sums row (m + 1) ≡ left_of sums row m + get_or sums m 0
    → left_of sums (suc row) (2 * m + 1 + 1) ≡ left_of sums (suc row) (2 * m + 1) + get_or sums (2 * m + 1) 0
next-odd sums row m tree from below above =
    let two : 2 * m + 1 + 1 ≡ 2 * (m + 1) = omega arith in
    omega (arith, ap (left_of sums (suc row)) two, left_of-even sums row (m + 1), above, tree.nodes m from below, left_of-odd sums row m)

first-root : (sums : List ℕ) → left_of sums zero 1 ≡ 0
unfolding left_of
first-root sums = refl

whole-root : (sums : List ℕ) → left_of sums zero 2 ≡ get_or sums 1 0
unfolding left_of
whole-root sums = refl

next-root : (sums : List ℕ) (node : ℕ) → node ≡ 1 → left_of sums zero (node + 1) ≡ left_of sums zero node + get_or sums node 0
unfolding left_of
next-root sums node one = rw one (omega arith)

-- the next node of a row has this node more on its left
pub left_of-next : (sums : List ℕ) (row node : ℕ) → IsSumTree (2 ^ row) sums → 2 ^ row ≤ node → node < 2 * 2 ^ row
    → left_of sums row (node + 1) ≡ left_of sums row node + get_or sums node 0
left_of-next sums zero node tree from below = next-root sums node (omega arith)
left_of-next sums (suc row) node tree from below =
    let m = node / 2 in
    let more = twice row in
    let lower : 2 ^ row ≤ m = omega (arith, more) in
    let upper : m < 2 * 2 ^ row = omega (arith, more) in
    let some : 1 ≤ m = omega (arith, pow_pos row) in
    let P : ℕ → Type 0 = λ n. left_of sums (suc row) (n + 1) ≡ left_of sums (suc row) n + get_or sums n 0 in
    elim (cases_lt (node % 2) 1) [
      | inl even ↦ let same : 2 * m ≡ node = omega arith in subst P same (next-even sums row m)
      | inr odd ↦
          let same : 2 * m + 1 ≡ node = omega arith in
          subst P same (next-odd sums row m tree some (omega (arith, more)) (left_of-next sums row m (narrower tree (omega (arith, more))) lower upper))
    ]

-- the first node of a row has nothing on its left
pub left_of-first : (sums : List ℕ) (row : ℕ) → left_of sums row (2 ^ row) ≡ 0
left_of-first sums zero = first-root sums
left_of-first sums (suc row) = ap (left_of sums (suc row)) (twice row) ∙ left_of-even sums row (2 ^ row) ∙ left_of-first sums row

-- the root has nothing on its left
pub left_of-root : (sums : List ℕ) (row node : ℕ) → row ≡ 0 → 2 ^ row ≤ node → node < 2 * 2 ^ row → left_of sums row node ≡ 0
left_of-root sums row node none first last =
    let one : 2 ^ row ≡ 1 = ap (λ r. 2 ^ r) none in
    let root : node ≡ 1 = omega (arith, one) in
    ap (λ r. left_of sums r node) none ∙ ap (left_of sums 0) root ∙ first-root sums

-- past the last node of a row the whole is on the left
pub left_of-whole : (sums : List ℕ) (row : ℕ) → left_of sums row (2 * 2 ^ row) ≡ get_or sums 1 0
left_of-whole sums zero = whole-root sums
left_of-whole sums (suc row) =
    ap (λ n. left_of sums (suc row) (2 * n)) (twice row) ∙ left_of-even sums row (2 * 2 ^ row) ∙ left_of-whole sums row

-- a row that is not the last has at most half as many places as the last
pub row-within : {row rows : ℕ} → row < rows → 2 * 2 ^ row ≤ 2 ^ rows
row-within {row} {rows} less = let mono : 2 ^ suc row ≤ 2 ^ rows = pow_mono (omega arith) in omega (arith, twice row, mono)

-- the steps of a walk down, in the words of the code
pub left_of-left_child : (sums : List ℕ) (row node : ℕ) → left_of sums (row + 1) (node * 2) ≡ left_of sums row node
left_of-left_child sums row node =
    let next : row + 1 ≡ suc row = omega arith in
    let two : node * 2 ≡ 2 * node = omega arith in
    ap (λ r. left_of sums r (node * 2)) next ∙ ap (left_of sums (suc row)) two ∙ left_of-even sums row node

pub left_of-right_child : (sums : List ℕ) (row node : ℕ) → left_of sums (row + 1) (node * 2 + 1) ≡ left_of sums row node + get_or sums (node * 2) 0
left_of-right_child sums row node =
    let next : row + 1 ≡ suc row = omega arith in
    let two : node * 2 ≡ 2 * node = omega arith in
    omega (
      arith,
      ap (λ r. left_of sums r (node * 2 + 1)) next,
      ap (λ n. left_of sums (suc row) (n + 1)) two,
      ap (λ n. get_or sums n 0) two,
      left_of-odd sums row node,
    )

pub children : {leaves : ℕ} {sums : List ℕ} (node : ℕ) → IsSumTree leaves sums → 1 ≤ node → node < leaves
    → get_or sums node 0 ≡ get_or sums (node * 2) 0 + get_or sums (node * 2 + 1) 0
children {leaves} {sums} node tree some below =
    let two : node * 2 ≡ 2 * node = omega arith in
    omega (arith, tree.nodes node some below, ap (λ n. get_or sums n 0) two, ap (λ n. get_or sums (n + 1) 0) two)

-- a node under which something is sought has a left child in the list
pub child-inside : (sums : List ℕ) (rows row node rest : ℕ) → IsSumTree (2 ^ rows) sums → 2 ^ rows < length sums → row < rows
    → 2 ^ row ≤ node → node < 2 * 2 ^ row → rest ≤ get_or sums node 0 → (2 ^ row < node → 1 ≤ rest) → node * 2 < length sums
child-inside sums rows row node rest tree some less first last reached before =
    elim (cases_lt (node * 2) (length sums)) [
      | inl inside ↦ inside
      | inr past ↦
          let within = row-within less in
          omega (
            arith,
            within,
            before,
            children node tree (omega (arith, pow_pos row)) (omega (arith, within)),
            get_or_past sums (node * 2) 0 past,
            get_or_past sums (node * 2 + 1) 0 (omega arith),
          )
    ]

-- the steps of a walk up
module _ (sums : List ℕ) (rows row node : ℕ) (less : row < rows) where
  up : rows - row ≡ suc (rows - (row + 1))
  up = omega arith

  pub twice-up : 2 ^ (rows - row) ≡ 2 * 2 ^ (rows - (row + 1))
  twice-up = ap (λ r. 2 ^ r) up ∙ twice (rows - (row + 1))

  left_of-up_odd : node % 2 ≡ 1 → left_of sums (rows - row) node ≡ left_of sums (rows - (row + 1)) (node / 2) + get_or sums (node - 1) 0
  unfolding left_of
  left_of-up_odd odd =
      ap (λ r. left_of sums r node) up ∙ ap (λ b. left_of sums (rows - (row + 1)) (node / 2) + cond (eqb b 1) (get_or sums (node - 1) 0) 0) odd

  left_of-up_even : node % 2 ≡ 0 → left_of sums (rows - row) node ≡ left_of sums (rows - (row + 1)) (node / 2) + 0
  unfolding left_of
  left_of-up_even even =
      ap (λ r. left_of sums r node) up ∙ ap (λ b. left_of sums (rows - (row + 1)) (node / 2) + cond (eqb b 1) (get_or sums (node - 1) 0) 0) even

  -- what a node adds to what stands left of its parent: its left sister's sum, or what stands in the unused place
  pub left_of-up : get_or sums 0 0 ≡ 0
      → left_of sums (rows - row) node ≡ left_of sums (rows - (row + 1)) (node / 2) + get_or sums ((node - 1) * (node % 2)) 0
  left_of-up unused =
      elim (cases_lt (node % 2) 1) [
        | inl less ↦
            let even : node % 2 ≡ 0 = omega arith in
            let first : (node - 1) * 0 ≡ 0 = omega arith in
            omega (arith, left_of-up_even even, ap (λ b. get_or sums ((node - 1) * b) 0) even, ap (λ k. get_or sums k 0) first, unused)
        | inr more ↦
            let odd : node % 2 ≡ 1 = omega arith in
            let sister : (node - 1) * 1 ≡ node - 1 = omega arith in
            omega (arith, left_of-up_odd odd, ap (λ b. get_or sums ((node - 1) * b) 0) odd, ap (λ k. get_or sums k 0) sister)
      ]
