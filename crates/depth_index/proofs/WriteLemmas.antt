-- What a write at a node leaves of the equations of a tree.
use Rattle.std.proofs.Common.{◌≡◌, ◌≢◌, ℕ, zero, suc, ◌+◌, ◌*◌, ◌/◌, ◌%◌, ◌<◌, ◌≤◌, List, length, drop, get_or, set, sym, ◌∙◌, ap, inl, inr, arith}
use Rattle.std.proofs.lemmas.Bool.{cases_eq, cases_lt}
use Rattle.std.proofs.lemmas.List.{drop-set-add, drop-set-lt, get_or-drop, get_or-set_other, get_or-set_same}
use Rattle.depth_index.specs.Tree.{IsSumTree}

-- no node has less than one of its children
child-within : (sums : List ℕ) (leaves m : ℕ) → IsSumTree leaves sums → 1 ≤ m → m < leaves
    → (get_or sums (2 * m) 0 ≤ get_or sums m 0) × (get_or sums (2 * m + 1) 0 ≤ get_or sums m 0)
child-within sums leaves m tree some below = (omega (arith, tree.nodes m some below), omega (arith, tree.nodes m some below))

pub parent-has-more : (sums : List ℕ) (leaves node : ℕ) → IsSumTree leaves sums → 2 ≤ node → node < 2 * leaves
    → get_or sums node 0 ≤ get_or sums (node / 2) 0
parent-has-more sums leaves node tree some below =
    let m = node / 2 in
    let within = child-within sums leaves m tree (omega arith) (omega arith) in
    elim (cases_lt (node % 2) 1) [
      | inl even ↦ let same : node ≡ 2 * m = omega arith in omega (arith, ap (λ k. get_or sums k 0) same, within.0)
      | inr odd ↦ let same : node ≡ 2 * m + 1 = omega arith in omega (arith, ap (λ k. get_or sums k 0) same, within.1)
    ]

root-within : (sums : List ℕ) (leaves : ℕ) → IsSumTree leaves sums → (most node : ℕ) → node ≤ most → 1 ≤ node → node < 2 * leaves
    → get_or sums node 0 ≤ get_or sums 1 0
root-within sums leaves tree zero node small some below = absurd (omega arith)
root-within sums leaves tree (suc most) node small some below =
    elim (cases_lt node 2) [
      | inl one ↦ let same : node ≡ 1 = omega arith in omega (arith, ap (λ k. get_or sums k 0) same)
      | inr more ↦
          omega (
            arith,
            parent-has-more sums leaves node tree more below,
            root-within sums leaves tree most (node / 2) (omega arith) (omega arith) (omega arith),
          )
    ]

-- no node has more than the root
pub root-has-most : (sums : List ℕ) (leaves node : ℕ) → IsSumTree leaves sums → 1 ≤ node → node < 2 * leaves
    → get_or sums node 0 ≤ get_or sums 1 0
root-has-most sums leaves node tree = root-within sums leaves tree node node (omega arith)

-- a tree but for one node, which lacks `more` and has `less` too much
pub record IsTreeBut (leaves : ℕ) (sums : List ℕ) (node more less : ℕ) : Type 0 where
  pub unused : get_or sums 0 0 ≡ 0
  pub at : 1 ≤ node → node < leaves → get_or sums node 0 + more ≡ get_or sums (2 * node) 0 + get_or sums (2 * node + 1) 0 + less
  pub others : (k : ℕ) → 1 ≤ k → k < leaves → k ≢ node → get_or sums k 0 ≡ get_or sums (2 * k) 0 + get_or sums (2 * k + 1) 0

-- a leaf that is to change
pub but-leaf : {leaves : ℕ} {sums : List ℕ} (node more less : ℕ) → IsSumTree leaves sums → leaves ≤ node → IsTreeBut leaves sums node more less
but-leaf node more less tree from = record { unused = tree.unused; at = λ some below. absurd (omega arith); others = λ k some below other. tree.nodes k some below }

-- past the root nothing is missing
pub but-nothing : {leaves : ℕ} {sums : List ℕ} {more less : ℕ} → IsTreeBut leaves sums 0 more less → IsSumTree leaves sums
but-nothing but = record { unused = but.unused; nodes = λ k some below. but.others k some below (λ none. absurd (omega arith)) }

-- once a node is right, its parent is the one that is not
pub but-parent : (leaves : ℕ) (sums : List ℕ) (node more less value : ℕ) → IsTreeBut leaves sums node more less → 1 ≤ node → node < length sums
    → value + less ≡ get_or sums node 0 + more → IsTreeBut leaves (set sums node value) (node / 2) more less
but-parent leaves sums node more less value but some inside right =
    let new = set sums node value in
    let same : get_or new node 0 ≡ value = get_or-set_same sums node value 0 inside in
    let other : (k : ℕ) → k ≢ node → get_or new k 0 ≡ get_or sums k 0 = λ k differs. get_or-set_other sums node k value 0 differs in
    let m = node / 2 in
    record {
      unused = other 0 (λ is. omega arith) ∙ but.unused;
      at = λ from below.
          let up : get_or new m 0 ≡ get_or sums m 0 = other m (omega arith) in
          let old = but.others m from below (omega arith) in
          elim (cases_lt (node % 2) 1) [
            | inl even ↦
                let is : 2 * m ≡ node = omega arith in
                omega (arith, up, old, right, same, ap (λ k. get_or new k 0) is, ap (λ k. get_or sums k 0) is, other (2 * m + 1) (omega arith))
            | inr odd ↦
                let is : 2 * m + 1 ≡ node = omega arith in
                omega (arith, up, old, right, same, ap (λ k. get_or new k 0) is, ap (λ k. get_or sums k 0) is, other (2 * m) (omega arith))
          ];
      others = λ k from below differs.
          let left = other (2 * k) (λ is. differs (omega arith)) in
          let right_child = other (2 * k + 1) (λ is. differs (omega arith)) in
          elim (cases_eq k node) [
            | inl is ↦
                omega (
                  arith,
                  right,
                  same,
                  left,
                  right_child,
                  ap (λ n. get_or new n 0) is,
                  ap (λ n. get_or sums n 0) is,
                  but.at some (omega arith),
                  ap (λ n. get_or sums (2 * n) 0) is,
                  ap (λ n. get_or sums (2 * n + 1) 0) is,
                )
            | inr isnt ↦ omega (arith, other k isnt, left, right_child, but.others k from below isnt)
          ];
    }

-- the quantities after a walk has written its leaf, and above it
pub leaf-written : (change : ℕ → ℕ) (now initial : List ℕ) (leaves i node : ℕ)
    → (leaves ≤ node → (node ≡ leaves + i) × (now ≡ initial))
    → (node < leaves → drop leaves now ≡ set (drop leaves initial) i (change (get_or (drop leaves initial) i 0)))
    → drop leaves (set now node (change (get_or now node 0))) ≡ set (drop leaves initial) i (change (get_or (drop leaves initial) i 0))
leaf-written change now initial leaves i node first then =
    elim (cases_lt node leaves) [
      | inl below ↦ drop-set-lt leaves now node (change (get_or now node 0)) below ∙ then below
      | inr from ↦
          ap (λ k. drop leaves (set now k (change (get_or now k 0)))) (first from).0
          ∙ ap (λ xs. drop leaves (set xs (leaves + i) (change (get_or xs (leaves + i) 0)))) (first from).1
          ∙ drop-set-add leaves initial i (change (get_or initial (leaves + i) 0))
          ∙ ap (λ q. set (drop leaves initial) i (change q)) (sym (get_or-drop leaves initial i 0))
    ]
