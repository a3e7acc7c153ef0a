-- Lemmas on the walk over a grid in order of nearness.
use Rattle.std.proofs.Common.{◌≡◌, ℕ, ◌+◌, ◌-◌, ◌<◌, ◌≤◌, true, false, List, [], ◌∷◌, ◌++◌, length, get_or, take, drop, All, sym, ap, ◌∙◌, arith, get_or-take, get_or-drop, length-take-le, length-drop, append_assoc, inl, inr, eq-or-lt_of_le}
use Rattle.std.proofs.lemmas.List.{take_more, drop_more, map-append}
use Rattle.std.proofs.lemmas.List.Elements.{All-from_get_or, All-map}
use Rattle.mkt_base.specs.Book.{price_at}
use Rattle.mkt_base.specs.declared.units.Price.{Price}
use Rattle.auction_law.specs.Nearness.{is_nearer, by_nearness, prices_of, IsWalk}
use Rattle.auction_law.proofs.NearnessLemmas.{key, key-below, key-above, key-nearer, key-not_nearer, key-same, nearest_of}

abbrev none : Price
none = record { 0 = 0 }

-- what holds of the price at each position below n holds of the first n prices, and likewise from n on
pub all_below : (P : ℕ → Type 0) (grid : List Price) (n : ℕ) → n ≤ length grid → ((i : ℕ) → i < n → P (price_at grid i)) → All P (prices_of (take n grid))
all_below P grid n l h = All-map P (λ p. p.0) (take n grid) (All-from_get_or (λ p. P p.0) (take n grid) none (λ i m.
    let k : i < n = omega (arith, length-take-le n grid l) in
    rw (get_or-take n grid i none k) (h i k)))

pub all_above : (P : ℕ → Type 0) (grid : List Price) (n : ℕ) → n ≤ length grid → ((i : ℕ) → n ≤ i → i < length grid → P (price_at grid i)) → All P (prices_of (drop n grid))
all_above P grid n l h = All-map P (λ p. p.0) (drop n grid) (All-from_get_or (λ p. P p.0) (drop n grid) none (λ i m.
    rw (get_or-drop n grid i none) (h (n + i) (omega arith) (omega (arith, length-drop n grid)))))

-- the step down
pub walk_below : (grid : List Price) (r b below above : ℕ) → IsWalk grid r below above → below ≡ b + 1
    → (above < length grid → is_nearer r (price_at grid b) (price_at grid above) ≡ true)
    → by_nearness r (prices_of (take below grid ++ drop above grid)) ≡ price_at grid b ∷ by_nearness r (prices_of (take b grid ++ drop above grid))
walk_below grid r b below above w e nearer =
    ap (λ n. by_nearness r (prices_of (take n grid ++ drop above grid))) e
    ∙ ap (λ xs. by_nearness r (prices_of (xs ++ drop above grid))) (take_more grid b none (omega (arith, w.order, w.within)))
    ∙ ap (λ xs. by_nearness r (prices_of xs)) (append_assoc (take b grid) (get_or grid b none ∷ []) (drop above grid))
    ∙ ap (by_nearness r) (map-append (λ p. p.0) (take b grid) (get_or grid b none ∷ drop above grid))
    ∙ nearest_of r (price_at grid b) (prices_of (take b grid)) (prices_of (drop above grid))
    (all_below (λ q. key r (price_at grid b) < key r q) grid b (omega (arith, w.order, w.within))
    (λ i l. key-below r (price_at grid i) (price_at grid b) (w.rising i b l (omega (arith, w.order, w.within))) (w.low b (omega arith))))
    (all_above (λ q. key r (price_at grid b) < key r q) grid above w.within farther)
    ∙ ap (λ xs. price_at grid b ∷ by_nearness r xs) (sym (map-append (λ p. p.0) (take b grid) (drop above grid)))
  where
    farther : (i : ℕ) → above ≤ i → i < length grid → key r (price_at grid b) < key r (price_at grid i)
    farther i h l =
        let first : key r (price_at grid b) < key r (price_at grid above) = key-nearer r (price_at grid b) (price_at grid above) (nearer (omega arith)) in
        elim (eq-or-lt_of_le h) [
          | inl same ↦ rw (← same) first
          | inr m ↦ let k : key r (price_at grid above) < key r (price_at grid i) = key-above r (price_at grid above) (price_at grid i) (omega (arith, w.high above (omega arith) (omega arith))) (w.rising above i m l) in omega arith
        ]

-- the step up
pub walk_above : (grid : List Price) (r below above : ℕ) → IsWalk grid r below above → above < length grid
    → (0 < below → is_nearer r (price_at grid (below - 1)) (price_at grid above) ≡ false)
    → by_nearness r (prices_of (take below grid ++ drop above grid)) ≡ price_at grid above ∷ by_nearness r (prices_of (take below grid ++ drop (above + 1) grid))
walk_above grid r below above w l not_nearer =
    ap (λ xs. by_nearness r (prices_of (take below grid ++ xs))) (drop_more grid above none l)
    ∙ ap (by_nearness r) (map-append (λ p. p.0) (take below grid) (get_or grid above none ∷ drop (above + 1) grid))
    ∙ nearest_of r (price_at grid above) (prices_of (take below grid)) (prices_of (drop (above + 1) grid))
    (all_below (λ q. key r (price_at grid above) < key r q) grid below (omega (arith, w.order, w.within)) farther)
    (all_above (λ q. key r (price_at grid above) < key r q) grid (above + 1) (omega arith)
    (λ i h m. key-above r (price_at grid above) (price_at grid i) (omega (arith, w.high above (omega arith) l)) (w.rising above i (omega arith) m)))
    ∙ ap (λ xs. price_at grid above ∷ by_nearness r xs) (sym (map-append (λ p. p.0) (take below grid) (drop (above + 1) grid)))
  where
    last : 0 < below → key r (price_at grid above) < key r (price_at grid (below - 1))
    last some =
        let h : key r (price_at grid above) ≤ key r (price_at grid (below - 1)) = key-not_nearer r (price_at grid (below - 1)) (price_at grid above) (not_nearer some) in
        elim (eq-or-lt_of_le h) [
          | inl same ↦
              let p : price_at grid above ≡ price_at grid (below - 1) = key-same r (price_at grid above) (price_at grid (below - 1)) same in
              omega (arith, w.low (below - 1) (omega arith), w.high above (omega arith) l)
          | inr m ↦ m
        ]

    farther : (i : ℕ) → i < below → key r (price_at grid above) < key r (price_at grid i)
    farther i h =
        let b : ℕ = below - 1 in
        let first : key r (price_at grid above) < key r (price_at grid b) = last (omega arith) in
        elim (eq-or-lt_of_le (let m : i ≤ b = omega arith in m)) [
          | inl same ↦ rw same first
          | inr m ↦ let k : key r (price_at grid b) < key r (price_at grid i) = key-below r (price_at grid i) (price_at grid b) (w.rising i b m (omega (arith, w.order, w.within))) (w.low b (omega arith)) in omega arith
        ]
