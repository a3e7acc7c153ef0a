-- The run of prices that meet the three conditions, by the ends that a search found.
use Rattle.std.proofs.Common.{◌≡◌, ℕ, suc, ◌+◌, ◌-◌, ◌<◌, ◌≤◌, ◌&&◌, ◌||◌, ◌⊎◌, Bool, true, false, nat_le, nat_lt, List, [], ◌∷◌, length, min, max, Some, inl, inr, refl, sym, subst, arith, eq-or-lt_of_le}
use Rattle.std.proofs.lemmas.Bool.Decides.{nat_tests}
use Rattle.mkt_base.specs.Book.{price_at, buys, above, sells, below}
use Rattle.mkt_base.specs.declared.order.Order.{Order}
use Rattle.mkt_base.specs.declared.units.Price.{Price}
use Rattle.auction_law.specs.Attempt.{chosen, is_traded, meets}
use Rattle.auction_law.specs.Nearness.{prices_of}
use Rattle.auction_law.proofs.MeetsLemmas.{meets-between, meets-holds, meets-tells}
use Rattle.auction_law.proofs.NearnessLemmas.{IsIn, key-above, key-below, lt_or_le, price-in}
use Rattle.auction_law.proofs.SumsLemmas.{above-fall, below-rise, buys-fall, price-le, sells-rise}
use Rattle.auction_law.proofs.TradedLemmas.{chosen-in, chosen-meets, chosen-nearest, traded-chosen}
use Rattle.book_law.specs.BookView.{BookView, IsGridOf, orders}
use Rattle.itayose.specs.Search.{IsFirstPast, is_past}
use Rattle.itayose.specs.Walk.{sums_of}
use Rattle.itayose.specs.declared.search.End.{End}
use Rattle.itayose.specs.declared.search.End.TheVariants.{Lower, Upper}

-- what the tests of the two ends say of numbers
lower-tells : (a s : ℕ) → (nat_le 1 s && nat_le a s) ≡ true → (1 ≤ s) × (a ≤ s)
lower-tells a s t = grind (arith, nat_tests)

lower-holds : (a s : ℕ) → 1 ≤ s → a ≤ s → (nat_le 1 s && nat_le a s) ≡ true
lower-holds a s h k = grind (arith, nat_tests)

upper-tells : (b l : ℕ) → (nat_lt b 1 || nat_lt b l) ≡ true → (b < 1) ⊎ (b < l)
upper-tells b l t = elim (lt_or_le b 1) [
  | inl h ↦ inl h
  | inr h ↦ elim (lt_or_le b l) [ inl k ↦ inr k | inr k ↦ let f : (nat_lt b 1 || nat_lt b l) ≡ false = grind (arith, nat_tests) in absurd (cc) ]
]

upper-none : (b l : ℕ) → b < 1 → (nat_lt b 1 || nat_lt b l) ≡ true
upper-none b l h = grind (arith, nat_tests)

upper-less : (b l : ℕ) → b < l → (nat_lt b 1 || nat_lt b l) ≡ true
upper-less b l h = grind (arith, nat_tests)

upper-not : (b l : ℕ) → 1 ≤ b → l ≤ b → (nat_lt b 1 || nat_lt b l) ≡ false
upper-not b l h k = grind (arith, nat_tests)

upper-inside : (b l : ℕ) → (nat_lt b 1 || nat_lt b l) ≡ false → (1 ≤ b) × (l ≤ b)
upper-inside b l t = grind (arith, nat_tests)

-- a price of the grid stands at a position
price-position : (grid : List Price) (p : ℕ) → IsIn p (prices_of grid) → (i : ℕ) × (i < length grid) × (p ≡ price_at grid i)
unfolding IsIn
price-position [] p h = absurd h
price-position (q ∷ qs) p h = elim h [
  | inl e ↦ (0, omega arith, e)
  | inr i ↦ let w : (i : ℕ) × (i < length qs) × (p ≡ price_at qs i) = price-position qs p i in (suc w.0, omega (arith, w.1), w.2)
]

module _ (b : BookView) (grid : List Price) (of : IsGridOf b grid) where
  -- above a position that is past an end each one is
  pub past-on : (end : End) (i j : ℕ) → i ≤ j → j < length grid → is_past end (sums_of b grid i) ≡ true → is_past end (sums_of b grid j) ≡ true
  past-on Lower i j h inside t =
      let os : List Order = orders b in
      let p : ℕ = price_at grid i in
      let q : ℕ = price_at grid j in
      let up : p ≤ q = price-le grid i j of.rising h inside in
      let w = lower-tells (above grid os p) (sells grid os p) t in
      lower-holds (above grid os q) (sells grid os q) (omega (arith, w.0, sells-rise grid os p q up)) (omega (arith, w.1, sells-rise grid os p q up, above-fall grid os p q up))
  past-on Upper i j h inside t =
      let os : List Order = orders b in
      let p : ℕ = price_at grid i in
      let q : ℕ = price_at grid j in
      let up : p ≤ q = price-le grid i j of.rising h inside in
      elim (upper-tells (buys grid os p) (below grid os p) t) [
        | inl n ↦ upper-none (buys grid os q) (below grid os q) (omega (arith, n, buys-fall grid os p q up))
        | inr n ↦ upper-less (buys grid os q) (below grid os q) (omega (arith, n, buys-fall grid os p q up, below-rise grid os p q up))
      ]

  -- and below one that is not none is
  pub not_past-below : (end : End) (i j : ℕ) → i ≤ j → j < length grid → is_past end (sums_of b grid j) ≡ false → is_past end (sums_of b grid i) ≡ false
  not_past-below end i j h inside f = by (is_past end (sums_of b grid i)) refl
    where
      by : (t : Bool) → is_past end (sums_of b grid i) ≡ t → is_past end (sums_of b grid i) ≡ false
      by true e = let u = past-on end i j h inside e in absurd (cc)
      by false e = e

  -- a price meets the conditions just where it is past the lower end and not past the upper
  meets-lower : (i : ℕ) → meets grid (orders b) (price_at grid i) ≡ true → is_past Lower (sums_of b grid i) ≡ true
  meets-lower i m =
      let w = meets-tells grid (orders b) (price_at grid i) m in
      lower-holds (above grid (orders b) (price_at grid i)) (sells grid (orders b) (price_at grid i)) w.1 w.2

  meets-upper : (i : ℕ) → meets grid (orders b) (price_at grid i) ≡ true → is_past Upper (sums_of b grid i) ≡ false
  meets-upper i m =
      let w = meets-tells grid (orders b) (price_at grid i) m in
      upper-not (buys grid (orders b) (price_at grid i)) (below grid (orders b) (price_at grid i)) w.0 w.3

  meets-both : (i : ℕ) → is_past Lower (sums_of b grid i) ≡ true → is_past Upper (sums_of b grid i) ≡ false → meets grid (orders b) (price_at grid i) ≡ true
  meets-both i l u =
      let low = lower-tells (above grid (orders b) (price_at grid i)) (sells grid (orders b) (price_at grid i)) l in
      let high = upper-inside (buys grid (orders b) (price_at grid i)) (below grid (orders b) (price_at grid i)) u in
      meets-holds grid (orders b) (price_at grid i) high.0 low.0 low.1 high.1

  -- of the run, by a position of it
  module _ (lo hi j : ℕ) (from_lo : lo ≤ j) (to_hi : j ≤ hi) (in_range : hi < length grid) (m : meets grid (orders b) (price_at grid j) ≡ true) where
    -- the lower end stands at it or below
    lower-before : (first : ℕ) → IsFirstPast b grid Lower lo hi first → first ≤ j
    lower-before first f = elim (lt_or_le j first) [
      | inl h ↦ let t = meets-lower j m in let u = f.before j from_lo h in absurd (cc)
      | inr h ↦ h
    ]

    -- and is past the end itself
    lower-past : (first : ℕ) → IsFirstPast b grid Lower lo hi first → is_past Lower (sums_of b grid first) ≡ true
    lower-past first f = elim (lt_or_le first hi) [
      | inl h ↦ f.past h
      | inr h ↦
          let e : j ≡ first = omega (arith, lower-before first f) in
          subst (λ i. is_past Lower (sums_of b grid i) ≡ true) e (meets-lower j m)
    ]

    -- the upper end stands at it or above
    upper-behind : (first past : ℕ) → first ≤ j → IsFirstPast b grid Upper (first + 1) (hi + 1) past → j < past
    upper-behind first past h f = elim (lt_or_le j past) [
      | inl k ↦ k
      | inr k ↦
          let t = past-on Upper past j k (omega arith) (f.past (omega arith)) in
          let u = meets-upper j m in
          absurd (cc)
    ]

    -- both ends meet the conditions
    lower-meets : (first : ℕ) → IsFirstPast b grid Lower lo hi first → meets grid (orders b) (price_at grid first) ≡ true
    lower-meets first f = meets-both first (lower-past first f) (not_past-below Upper first j (lower-before first f) (omega arith) (meets-upper j m))

    upper-meets : (first past last : ℕ) → IsFirstPast b grid Lower lo hi first → IsFirstPast b grid Upper (first + 1) (hi + 1) past → last + 1 ≡ past → meets grid (orders b) (price_at grid last) ≡ true
    upper-meets first past last f g e =
        let h : j ≤ last = omega (arith, upper-behind first past (lower-before first f) g) in
        let inside : last < length grid = omega (arith, g.within) in
        meets-both last (past-on Lower j last h inside (meets-lower j m)) (elim (lt_or_le first last) [
          | inl k ↦ g.before last (omega arith) (omega arith)
          | inr k ↦
              let same : j ≡ last = omega (arith, lower-before first f) in
              subst (λ i. is_past Upper (sums_of b grid i) ≡ false) same (meets-upper j m)
        ])

    -- the position of the run that is nearest to a reference of the window is the reference moved into the run
    run-nearest : (reference first past at : ℕ) → IsFirstPast b grid Lower lo hi first → IsFirstPast b grid Upper (first + 1) (hi + 1) past → at ≡ max (min reference (past - 1)) first
        → reference < length grid → chosen grid (orders b) (price_at grid reference) ≡ Some (price_at grid j) → at ≡ j
    run-nearest reference first past at f g e inside c =
        let before : first ≤ j = lower-before first f in
        let behind : j < past = upper-behind first past before g in
        let most : past ≤ hi + 1 = g.within in
        let last : ℕ = past - 1 in
        let ends : last + 1 ≡ past = omega arith in
        let r : ℕ = price_at grid reference in
        elim (lt_or_le reference first) [
          | inl h ↦ elim (eq-or-lt_of_le before) [
            | inl k ↦ omega arith
            | inr k ↦
                let near = chosen-nearest grid (orders b) r (price_at grid j) (price_at grid first) c (price-in grid first (omega arith)) (lower-meets first f) in
                let far = key-above r (price_at grid first) (price_at grid j) (price-le grid reference first of.rising (omega arith) (omega arith)) (of.rising first j k (omega arith)) in
                absurd (omega (arith, near, far))
          ]
          | inr h ↦ elim (lt_or_le last reference) [
            | inl k ↦ elim (lt_or_le j last) [
              | inl l ↦
                  let near = chosen-nearest grid (orders b) r (price_at grid j) (price_at grid last) c (price-in grid last (omega arith)) (upper-meets first past last f g ends) in
                  let far = key-below r (price_at grid j) (price_at grid last) (of.rising j last l (omega arith)) (price-le grid last reference of.rising (omega arith) inside) in
                  absurd (omega (arith, near, far))
              | inr l ↦ omega arith
            ]
            | inr k ↦
                let here : meets grid (orders b) r ≡ true = meets-between grid (orders b) (price_at grid first) r (price_at grid last) (price-le grid first reference of.rising h inside) (price-le grid reference last of.rising k (omega arith)) (lower-meets first f) (upper-meets first past last f g ends) in
                let near = chosen-nearest grid (orders b) r (price_at grid j) r c (price-in grid reference inside) here in
                elim (lt_or_le reference j) [
                  | inl l ↦ absurd (omega (arith, near, key-above r r (price_at grid j) (omega arith) (of.rising reference j l (omega arith))))
                  | inr l ↦ elim (eq-or-lt_of_le l) [
                    | inl same ↦ omega arith
                    | inr below ↦ absurd (omega (arith, near, key-below r (price_at grid j) r (of.rising j reference below inside) (omega arith)))
                  ]
                ]
          ]
        ]

  -- where an attempt trades in the window, the price that is chosen
  pub run-chosen : (reference lo hi first past at : ℕ) → lo ≤ reference → reference ≤ hi → hi < length grid
      → is_traded grid (orders b) (price_at grid reference) (price_at grid lo) (price_at grid hi) ≡ true
      → IsFirstPast b grid Lower lo hi first → IsFirstPast b grid Upper (first + 1) (hi + 1) past → at ≡ max (min reference (past - 1)) first
      → chosen grid (orders b) (price_at grid reference) ≡ Some (price_at grid at)
  run-chosen reference lo hi first past at from_lo to_hi in_range t f g e =
      let w = traded-chosen grid (orders b) (price_at grid reference) (price_at grid lo) (price_at grid hi) t in
      let p = price-position grid w.0 (chosen-in grid (orders b) (price_at grid reference) w.0 w.1) in
      let m : meets grid (orders b) (price_at grid p.0) ≡ true = subst (λ q. meets grid (orders b) q ≡ true) p.2 (chosen-meets grid (orders b) (price_at grid reference) w.0 w.1) in
      let c : chosen grid (orders b) (price_at grid reference) ≡ Some (price_at grid p.0) = subst (λ q. chosen grid (orders b) (price_at grid reference) ≡ Some q) p.2 w.1 in
      let low : lo ≤ p.0 = elim (lt_or_le p.0 lo) [ inl h ↦ absurd (omega (arith, w.2, p.2, of.rising p.0 lo h (omega arith))) | inr h ↦ h ] in
      let high : p.0 ≤ hi = elim (lt_or_le hi p.0) [ inl h ↦ absurd (omega (arith, w.3, p.2, of.rising hi p.0 h p.1)) | inr h ↦ h ] in
      let same = run-nearest lo hi p.0 low high in_range m reference first past at f g e (omega arith) c in
      subst (λ i. chosen grid (orders b) (price_at grid reference) ≡ Some (price_at grid i)) (sym same) c
