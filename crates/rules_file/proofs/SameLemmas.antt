-- Words that are compared in parts.
use Rattle.std.proofs.Common.{◌≡◌, ℕ, ◌+◌, ◌<◌, ◌≤◌, Bool, true, false, ◌&&◌, eqb, List, ◌++◌, length, take, drop, get_or, refl, sym, ap, ◌∙◌, inl, inr, length-drop, length-take, arith, w8, w32, Fits}
use Rattle.std.specs.Int.{from_le_bytes, to_le_bytes}
use Rattle.std.specs.Str.{bytes_eq}
use Rattle.std.proofs.lemmas.Bool.Decides.{nat_tests, same_from_decides}
use Rattle.std.proofs.lemmas.Bool.{cases_lt}
use Rattle.std.proofs.lemmas.List.{get_or-drop, get_or-take, get_or_past, take_all, take-append-drop, take-take}
use Rattle.std.proofs.lemmas.Nat.{le_bytes_4}
use Rattle.std.proofs.lemmas.Simd.{length-chunk}
use Rattle.std.proofs.lemmas.Slice.Eq.{bytes_eq-Decides}

both : (a b : Bool) → (a && b) ≡ true → (a ≡ true) × (b ≡ true)
both true b h = (refl, h)
both false b h = absurd (cc)

-- words of 4 to 8 bytes, by their first four and their last four
pub same-parts : (a b : List ℕ) (k : ℕ) → k ≤ 4 → length a ≡ k + 4 → length b ≡ k + 4
    → (bytes_eq (take 4 (drop 0 a)) (take 4 (drop 0 b)) && bytes_eq (take 4 (drop k a)) (take 4 (drop k b))) ≡ bytes_eq a b
same-parts a b k few long also = same_from_decides {P = a ≡ b} _ _ (joined, parted) (bytes_eq-Decides a b)
  where
    last : (x : List ℕ) → length x ≡ k + 4 → take 4 (drop k x) ≡ drop k x
    last x h = take_all 4 (drop k x) (omega (arith, length-drop k x, h))

    joined : (bytes_eq (take 4 (drop 0 a)) (take 4 (drop 0 b)) && bytes_eq (take 4 (drop k a)) (take 4 (drop k b))) ≡ true → a ≡ b
    joined h =
        let t = both _ _ h in
        let front : take 4 a ≡ take 4 b = (bytes_eq-Decides (take 4 a) (take 4 b)).0 t.0 in
        let back : drop k a ≡ drop k b = sym (last a long) ∙ (bytes_eq-Decides (take 4 (drop k a)) (take 4 (drop k b))).0 t.1 ∙ last b also in
        let begin : take k a ≡ take k b = sym (take-take k 4 a few) ∙ ap (take k) front ∙ take-take k 4 b few in
        sym (take-append-drop k a) ∙ ap (λ x. x ++ drop k a) begin ∙ ap (λ x. take k b ++ x) back ∙ take-append-drop k b

    parted : a ≡ b → (bytes_eq (take 4 (drop 0 a)) (take 4 (drop 0 b)) && bytes_eq (take 4 (drop k a)) (take 4 (drop k b))) ≡ true
    parted e =
        rw ((bytes_eq-Decides (take 4 (drop 0 a)) (take 4 (drop 0 b))).1 (ap (take 4) e), (bytes_eq-Decides (take 4 (drop k a)) (take 4 (drop k b))).1 (ap (λ x. take 4 (drop k x)) e)) refl

-- the bytes of a piece are bytes
piece-bytes : (xs : List ℕ) (i : ℕ) → ((k : ℕ) → Fits w8 (get_or xs k 0)) → (k : ℕ) → get_or (take 4 (drop i xs)) k 0 < 256
piece-bytes xs i fits k = elim (cases_lt k 4) [ inl within ↦ inside within | inr behind ↦ outside behind ]
  where
    inside : k < 4 → get_or (take 4 (drop i xs)) k 0 < 256
    inside h = rw (get_or-take 4 (drop i xs) k 0 h, get_or-drop i xs k 0) ((fits (i + k)).fits)

    outside : 4 ≤ k → get_or (take 4 (drop i xs)) k 0 < 256
    outside h = rw (get_or_past (take 4 (drop i xs)) k 0 (omega (arith, length-take 4 (drop i xs), h))) (omega arith)

-- four bytes are the same where they are the same number
pub same-number : (xs ys : List ℕ) (i x y : ℕ) → i + 4 ≤ length xs → i + 4 ≤ length ys → ((k : ℕ) → Fits w8 (get_or xs k 0)) → ((k : ℕ) → Fits w8 (get_or ys k 0))
    → x ≡ from_le_bytes w32 (take 4 (drop i xs)) → y ≡ from_le_bytes w32 (take 4 (drop i ys)) → eqb x y ≡ bytes_eq (take 4 (drop i xs)) (take 4 (drop i ys))
same-number xs ys i x y lx ly fx fy ex ey = same_from_decides {P = take 4 (drop i xs) ≡ take 4 (drop i ys)} _ _ (joined, parted) (bytes_eq-Decides (take 4 (drop i xs)) (take 4 (drop i ys)))
  where
    joined : eqb x y ≡ true → take 4 (drop i xs) ≡ take 4 (drop i ys)
    joined h =
        let e : x ≡ y = grind (arith, nat_tests, h) in
        sym (le_bytes_4 (take 4 (drop i xs)) x (length-chunk i 4 xs lx) (piece-bytes xs i fx) ex) ∙ ap (to_le_bytes w32) e ∙ le_bytes_4 (take 4 (drop i ys)) y (length-chunk i 4 ys ly) (piece-bytes ys i fy) ey

    parted : take 4 (drop i xs) ≡ take 4 (drop i ys) → eqb x y ≡ true
    parted e =
        let e : x ≡ y = ex ∙ ap (from_le_bytes w32) e ∙ sym ey in
        grind (arith, nat_tests)
