-- Multiples of a tick in a range of numbers, and filters of ranges.
use Rattle.std.proofs.Common.{◌≡◌, ◌≢◌, ℕ, zero, suc, ◌+◌, ◌-◌, ◌*◌, ◌/◌, ◌%◌, ◌<◌, ◌≤◌, ◌⊎◌, inl, inr, Bool, cond, eqb, List, [], ◌∷◌, ◌++◌, length, map, refl, sym, ap, ◌∙◌, add-one, append_assoc, arith}
use Rattle.std.proofs.Math.Nat.{suc-add, mul-le-mul_right}
use Rattle.std.specs.List.{filter, range_with_len, All, AllPairs}
use Rattle.std.proofs.lemmas.Bool.{cases_lt, cond-true, cond-false, eq-eqb, ne_eqb}
use Rattle.std.proofs.lemmas.Nat.{div-add-mod', div-mul-add, mod-mul-add, mod_below, le-div}
use Rattle.std.proofs.lemmas.List.Elements.{filter-append}
use Rattle.std.proofs.lemmas.List.FromFn.{get_or-range_with_len, length-range_with_len, length-map-range_with_len, map-range_with_len_more}
use Rattle.mkt_base.specs.declared.units.Price.{Price}
use Rattle.tick_grid.specs.Rows.{multiples, price_of}

-- a range in two parts
pub range-parts : (a m n : ℕ) → range_with_len a (m + n) ≡ range_with_len a m ++ range_with_len (a + m) n
range-parts a zero n =
    let same : zero + n ≡ n = omega arith in
    let start : a + zero ≡ a = omega arith in
    ap (range_with_len a) same ∙ ap (λ k. range_with_len k n) (sym start)
range-parts a (suc m) n =
    let start : (a + 1) + m ≡ a + suc m = omega arith in
    ap (range_with_len a) (suc-add m n)
    ∙ ap (λ rest. a ∷ rest) (range-parts (a + 1) m n ∙ ap (λ k. range_with_len (a + 1) m ++ range_with_len k n) start)

-- filters whose tests agree on a range keep the same of it
pub filter-agree : (p q : ℕ → Bool) (a n : ℕ) → ((x : ℕ) → a ≤ x → x < a + n → p x ≡ q x) → filter p (range_with_len a n) ≡ filter q (range_with_len a n)
filter-agree p q a zero agree = refl
filter-agree p q a (suc n) agree =
    let rest = filter-agree p q (a + 1) n (λ x low high. agree x (omega arith) (omega arith)) in
    ap (λ b. cond b (a ∷ filter p (range_with_len (a + 1) n)) (filter p (range_with_len (a + 1) n))) (agree a (omega arith) (omega arith))
    ∙ ap (λ xs. cond (q a) (a ∷ xs) xs) rest

-- the numbers of a range are within it, and rise
pub range-within : (a n : ℕ) → All (λ x. (a ≤ x) × (x < a + n)) (range_with_len a n)
range-within a n k d inside =
    let small : k < n = omega (arith, length-range_with_len a n) in
    let is = get_or-range_with_len a n k d small in
    (omega (arith, is), omega (arith, is))

pub range-rises : (a n : ℕ) → AllPairs (λ x y. x < y) (range_with_len a n)
range-rises a n i j d less inside =
    let small : j < n = omega (arith, length-range_with_len a n) in
    omega (arith, get_or-range_with_len a n i d (omega arith), get_or-range_with_len a n j d small)

-- the next number is a multiple of t, and the next one, or neither
abbrev NextMultiple : ℕ → ℕ → Type 0
NextMultiple t x =
    (((x + 1) % t ≡ 0) × ((x + 1) / t ≡ x / t + 1) × ((x / t + 1) * t ≡ x + 1))
    ⊎ (((x + 1) % t ≢ 0) × ((x + 1) / t ≡ x / t))

next-multiple : (t x : ℕ) → 1 ≤ t → NextMultiple t x
next-multiple t x tick =
    let parts = div-add-mod' x t in
    let small = mod_below x t tick in
    elim (cases_lt (x % t + 1) t) [
      | inl less ↦
          let is : x + 1 ≡ x / t * t + (x % t + 1) = omega (arith, parts) in
          let left = ap (λ y. y % t) is ∙ mod-mul-add (x / t) t (x % t + 1) less in
          inr ((λ none. absurd (omega (arith, none, left))), ap (λ y. y / t) is ∙ div-mul-add (x / t) t (x % t + 1) less)
      | inr all ↦
          let is : x + 1 ≡ (x / t + 1) * t + 0 = omega (arith, parts, small, all) in
          inl (
            ap (λ y. y % t) is ∙ mod-mul-add (x / t + 1) t 0 tick,
            ap (λ y. y / t) is ∙ div-mul-add (x / t + 1) t 0 tick,
            omega (arith, is),
          )
    ]

-- a quotient does not fall
pub quotient-rises : (t x y : ℕ) → 1 ≤ t → x ≤ y → x / t ≤ y / t
quotient-rises t x y tick less = le-div (x / t) y t tick (omega (arith, div-add-mod' x t))

-- the multiple behind so many
abbrev pub multiple : ℕ → ℕ → ℕ
multiple t below = (below + 1) * t

one-more : (t b n : ℕ) → multiples t (b + 1) (n + 1) ≡ multiples t (b + 1) n ++ cond (eqb ((b + 1 + n) % t) 0) ((b + 1 + n) ∷ []) []
unfolding multiples
one-more t b n =
    let p : ℕ → Bool = λ x. eqb (x % t) 0 in
    ap (filter p) (range-parts (b + 1) n 1) ∙ filter-append p (range_with_len (b + 1) n) (range_with_len (b + 1 + n) 1)

none-yet : (t b : ℕ) → multiples t (b + 1) zero ≡ []
unfolding multiples
none-yet t b = refl

pub append-none : (xs : List ℕ) → xs ++ [] ≡ xs
append-none [] = refl
append-none (x ∷ xs) = ap (λ ys. x ∷ ys) (append-none xs)

-- the multiples among the n numbers behind b
pub multiples-are : (t b n : ℕ) → 1 ≤ t → multiples t (b + 1) n ≡ map (multiple t) (range_with_len (b / t) ((b + n) / t - b / t))
multiples-are t b zero tick =
    let end : b + zero ≡ b = omega arith in
    let none : b / t - b / t ≡ 0 = omega arith in
    let same : (b + zero) / t - b / t ≡ 0 = ap (λ x. x / t - b / t) end ∙ none in
    none-yet t b ∙ ap (λ k. map (multiple t) (range_with_len (b / t) k)) (sym same)
multiples-are t b (suc n) tick =
    let before = multiples-are t b n tick in
    let order : b / t ≤ (b + n) / t = quotient-rises t b (b + n) tick (omega arith) in
    let at : b + 1 + n ≡ b + n + 1 = omega arith in
    let far : b + suc n ≡ b + n + 1 = omega arith in
    let list : ℕ → List ℕ = λ k. map (multiple t) (range_with_len (b / t) k) in
    let step : multiples t (b + 1) (suc n) ≡ list ((b + n) / t - b / t) ++ cond (eqb ((b + n + 1) % t) 0) ((b + n + 1) ∷ []) [] =
    ap (multiples t (b + 1)) (sym (add-one n)) ∙ one-more t b n
    ∙ ap (λ xs. xs ++ cond (eqb ((b + 1 + n) % t) 0) ((b + 1 + n) ∷ []) []) before
    ∙ ap (λ x. list ((b + n) / t - b / t) ++ cond (eqb (x % t) 0) (x ∷ []) []) at in
    elim (next-multiple t (b + n) tick) [
      | inl next ↦
          let more : (b + n + 1) / t - b / t ≡ ((b + n) / t - b / t) + 1 = omega (arith, next.1, order) in
          let count : (b + suc n) / t - b / t ≡ ((b + n) / t - b / t) + 1 = ap (λ x. x / t - b / t) far ∙ more in
          step
          ∙ ap (λ xs. list ((b + n) / t - b / t) ++ xs) (cond-true _ _ _ (eq-eqb _ _ next.0) ∙ ap (λ x. x ∷ []) (sym next.2))
          ∙ sym (ap list count ∙ map-range_with_len_more (multiple t) (b / t) ((b + n) / t - b / t) ((b + n) / t) (omega (arith, order)))
      | inr other ↦
          let count : (b + suc n) / t - b / t ≡ (b + n) / t - b / t = ap (λ x. x / t - b / t) far ∙ ap (λ q. q - b / t) other.1 in
          step
          ∙ ap (λ xs. list ((b + n) / t - b / t) ++ xs) (cond-false _ _ _ (ne_eqb _ _ other.0))
          ∙ append-none (list ((b + n) / t - b / t))
          ∙ sym (ap list count)
    ]

-- the same between two numbers
pub multiples-between : (t from to : ℕ) → 1 ≤ t → 1 ≤ from → from ≤ to
    → multiples t from (to + 1 - from) ≡ map (multiple t) (range_with_len ((from - 1) / t) (to / t - (from - 1) / t))
multiples-between t from to tick some order =
    let start : (from - 1) + 1 ≡ from = omega arith in
    let end : (from - 1) + (to + 1 - from) ≡ to = omega arith in
    ap (λ a. multiples t a (to + 1 - from)) (sym start)
    ∙ multiples-are t (from - 1) (to + 1 - from) tick
    ∙ ap (λ x. map (multiple t) (range_with_len ((from - 1) / t) (x / t - (from - 1) / t))) end

-- how many they are, by two divisions
pub length_multiples : (t from to : ℕ) → 1 ≤ t → 1 ≤ from → from ≤ to → to / t - (from - 1) / t ≡ length (multiples t from (to + 1 - from))
length_multiples t from to tick some order =
    sym (ap length (multiples-between t from to tick some order) ∙ length-map-range_with_len (multiple t) ((from - 1) / t) (to / t - (from - 1) / t))

-- each is at most the end
pub multiple-within : (t to below : ℕ) → 1 ≤ t → below < to / t → (below + 1) * t ≤ to
multiple-within t to below tick less = omega (arith, mul-le-mul_right {m = below + 1} {n = to / t} t (omega arith), div-add-mod' to t)

-- the price at the multiple behind so many
abbrev pub price_behind : ℕ → ℕ → Price
price_behind t below = price_of (multiple t below)

-- the next multiple is listed
pub listed-one-more : (before items : List Price) (t first below : ℕ) → first ≤ below
    → items ≡ before ++ map (price_behind t) (range_with_len first (below - first))
    → items ++ (price_behind t below ∷ []) ≡ before ++ map (price_behind t) (range_with_len first (below + 1 - first))
listed-one-more before items t first below order listed =
    let count : below + 1 - first ≡ (below - first) + 1 = omega arith in
    ap (λ xs. xs ++ (price_behind t below ∷ [])) listed
    ∙ append_assoc before (map (price_behind t) (range_with_len first (below - first))) (price_behind t below ∷ [])
    ∙ ap (λ xs. before ++ xs) (sym (map-range_with_len_more (price_behind t) first (below - first) below (omega arith)))
    ∙ ap (λ n. before ++ map (price_behind t) (range_with_len first n)) (sym count)

map-price : (t : ℕ) (xs : List ℕ) → map price_of (map (multiple t) xs) ≡ map (price_behind t) xs
map-price t [] = refl
map-price t (x ∷ xs) = ap (λ ys. price_behind t x ∷ ys) (map-price t xs)

-- all are listed
pub multiples-listed : (t from to below : ℕ) → 1 ≤ t → 1 ≤ from → from ≤ to → below ≡ to / t
    → map (price_behind t) (range_with_len ((from - 1) / t) (below - (from - 1) / t)) ≡ map price_of (multiples t from (to + 1 - from))
multiples-listed t from to below tick some order end =
    ap (λ b. map (price_behind t) (range_with_len ((from - 1) / t) (b - (from - 1) / t))) end
    ∙ sym (ap (map price_of) (multiples-between t from to tick some order) ∙ map-price t (range_with_len ((from - 1) / t) (to / t - (from - 1) / t)))
