-- A filter of a range does not change between its first and its last number.
use Rattle.std.proofs.Common.{◌≡◌, ℕ, zero, suc, ◌+◌, ◌-◌, ◌≤◌, Bool, true, false, cond, List, [], ◌∷◌, ◌++◌, length, get_or, map, refl, sym, ap, subst, ◌∙◌, add-one, arith}
use Rattle.std.specs.List.{filter, range_with_len}
use Rattle.std.proofs.lemmas.Bool.{cond-true}
use Rattle.std.proofs.lemmas.List.{length-append, length-map}
use Rattle.std.proofs.lemmas.List.Elements.{filter-append}
use Rattle.tick_grid.specs.Grid.{first_price, last_price}
use Rattle.tick_grid.specs.Rows.{grid_of, is_on_tick, price_of, prices_on_tick}
use Rattle.tick_grid.specs.declared.rows.TickRow.{TickRow}
use Rattle.tick_grid.proofs.MultipleLemmas.{append-none, range-parts}
use Rattle.tick_grid.proofs.RowLemmas.{price_at-prices}

abbrev kept : (ℕ → Bool) → ℕ → ℕ → List ℕ
kept p a n = filter p (range_with_len a n)

abbrev first : List ℕ → ℕ
first xs = get_or xs 0 0

abbrev last : List ℕ → ℕ
last xs = get_or xs (length xs - 1) 0

one-more : (p : ℕ → Bool) (a n : ℕ) → kept p a (n + 1) ≡ kept p a n ++ cond (p (a + n)) ((a + n) ∷ []) []
one-more p a n = ap (filter p) (range-parts a n 1) ∙ filter-append p (range_with_len a n) (range_with_len (a + n) 1)

length-push : (xs : List ℕ) (x : ℕ) → length (xs ++ x ∷ []) ≡ length xs + 1
length-push xs x = length-append xs (x ∷ [])

-- from its first number on it is the same
from-first-step : (p : ℕ → Bool) (a n : ℕ) (b : Bool) → p a ≡ b → (1 ≤ length (kept p (a + 1) n) → let x = first (kept p (a + 1) n) in kept p x ((a + 1) + n - x) ≡ kept p (a + 1) n)
    → 1 ≤ length (cond b (a ∷ kept p (a + 1) n) (kept p (a + 1) n))
    → let x = first (cond b (a ∷ kept p (a + 1) n) (kept p (a + 1) n)) in kept p x (a + suc n - x) ≡ cond b (a ∷ kept p (a + 1) n) (kept p (a + 1) n)
from-first-step p a n true e rest some =
    let all : a + suc n - a ≡ suc n = omega arith in
    ap (kept p a) all ∙ cond-true (p a) (a ∷ kept p (a + 1) n) (kept p (a + 1) n) e
from-first-step p a n false e rest some =
    let end : a + suc n ≡ (a + 1) + n = omega arith in
    let x = first (kept p (a + 1) n) in
    ap (λ m. kept p x (m - x)) end ∙ rest some

from-first : (p : ℕ → Bool) (a n : ℕ) → 1 ≤ length (kept p a n) → let x = first (kept p a n) in kept p x (a + n - x) ≡ kept p a n
from-first p a zero some = absurd (omega arith)
from-first p a (suc n) some = from-first-step p a n (p a) refl (from-first p (a + 1) n) some

last-pushed : (xs : List ℕ) (x : ℕ) → last (xs ++ x ∷ []) ≡ x
last-pushed [] x = refl
last-pushed (y ∷ xs) x =
    let count : length (xs ++ x ∷ []) ≡ length xs + 1 = length-push xs x in
    let at : suc (length (xs ++ x ∷ [])) - 1 ≡ suc (length (xs ++ x ∷ []) - 1) = omega (arith, count) in
    ap (λ k. get_or (y ∷ (xs ++ x ∷ [])) k 0) at ∙ last-pushed xs x

-- up to its last number it is the same
upto-last-step : (p : ℕ → Bool) (a n : ℕ) (b : Bool) → p (a + n) ≡ b → (1 ≤ length (kept p a n) → kept p a (last (kept p a n) + 1 - a) ≡ kept p a n)
    → 1 ≤ length (kept p a n ++ cond b ((a + n) ∷ []) [])
    → kept p a (last (kept p a n ++ cond b ((a + n) ∷ []) []) + 1 - a) ≡ kept p a n ++ cond b ((a + n) ∷ []) []
upto-last-step p a n true e rest some =
    let end = last-pushed (kept p a n) (a + n) in
    let all : a + n + 1 - a ≡ n + 1 = omega arith in
    ap (λ z. kept p a (z + 1 - a)) end ∙ ap (kept p a) all ∙ one-more p a n
    ∙ ap (λ b. kept p a n ++ cond b ((a + n) ∷ []) []) e
upto-last-step p a n false e rest some =
    let same = append-none (kept p a n) in
    ap (λ xs. kept p a (last xs + 1 - a)) same ∙ rest (subst (λ (xs : List ℕ). 1 ≤ length xs) same some) ∙ sym same

upto-last : (p : ℕ → Bool) (a n : ℕ) → 1 ≤ length (kept p a n) → kept p a (last (kept p a n) + 1 - a) ≡ kept p a n
upto-last p a zero some = absurd (omega arith)
upto-last p a (suc n) some =
    let more : kept p a (suc n) ≡ kept p a n ++ cond (p (a + n)) ((a + n) ∷ []) [] = ap (kept p a) (sym (add-one n)) ∙ one-more p a n in
    let some' : 1 ≤ length (kept p a n ++ cond (p (a + n)) ((a + n) ∷ []) []) = subst (λ (xs : List ℕ). 1 ≤ length xs) more some in
    ap (λ xs. kept p a (last xs + 1 - a)) more ∙ upto-last-step p a n (p (a + n)) refl (upto-last p a n) some' ∙ sym more

-- both
between-ends : (p : ℕ → Bool) (a n : ℕ) → 1 ≤ length (kept p a n)
    → let x = first (kept p a n) in kept p x (last (kept p a n) + 1 - x) ≡ kept p a n
between-ends p a n some =
    let x = first (kept p a n) in
    let same : kept p x (a + n - x) ≡ kept p a n = from-first p a n some in
    let some' : 1 ≤ length (kept p x (a + n - x)) = subst (λ (xs : List ℕ). 1 ≤ length xs) (sym same) some in
    ap (λ xs. kept p x (last xs + 1 - x)) (sym same) ∙ upto-last p x (a + n - x) some' ∙ same

-- a grid of rows is the grid between its first and its last price
pub grid_of-between : (rows : List TickRow) (low high : ℕ) → 1 ≤ length (grid_of rows low high)
    → grid_of rows (first_price (grid_of rows low high)) (last_price (grid_of rows low high)) ≡ grid_of rows low high
unfolding grid_of prices_on_tick
grid_of-between rows low high some =
    let xs = kept (is_on_tick rows) low (high + 1 - low) in
    let size = length-map xs price_of in
    let start : first_price (map price_of xs) ≡ first xs = price_at-prices xs 0 in
    let end : last_price (map price_of xs) ≡ last xs = price_at-prices xs (length (map price_of xs) - 1) ∙ ap (λ n. get_or xs (n - 1) 0) size in
    ap (λ a. map price_of (kept (is_on_tick rows) a (last_price (map price_of xs) + 1 - a))) start
    ∙ ap (λ z. map price_of (kept (is_on_tick rows) (first xs) (z + 1 - first xs))) end
    ∙ ap (map price_of) (between-ends (is_on_tick rows) low (high + 1 - low) (omega (arith, some, size)))
