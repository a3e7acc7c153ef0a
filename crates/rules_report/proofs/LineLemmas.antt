-- The lines of a table, one after another.
use Rattle.std.proofs.Common.{◌≡◌, ℕ, ◌+◌, ◌<◌, zero, suc, List, [], ◌∷◌, ◌++◌, length, flat_map, get_or, take, sym, ap, ◌∙◌, append-nil, arith}
use Rattle.std.specs.List.{range_with_len}
use Rattle.std.proofs.lemmas.Grind.{flat_map-append}
use Rattle.std.proofs.lemmas.List.{take_more}

-- the n + 1 numbers from a on are the first n of them, and the last
range-next : (a n : ℕ) → range_with_len a (n + 1) ≡ range_with_len a n ++ (a + n) ∷ []
range-next a zero = ap (λ k. k ∷ []) (omega arith)
range-next a (suc n) =
    let one_more : suc n + 1 ≡ suc (n + 1) = omega arith in
    rw one_more (ap (λ xs. a ∷ xs) (range-next (a + 1) n ∙ ap (λ k. range_with_len (a + 1) n ++ k ∷ []) (omega arith)))

-- the lines of one number more
pub lines-next : (text : ℕ → List ℕ) (n : ℕ) → flat_map text (range_with_len 0 n) ++ text n ≡ flat_map text (range_with_len 0 (n + 1))
lines-next text n =
    let before = flat_map text (range_with_len 0 n) in
    let last : 0 + n ≡ n = omega arith in
    sym (ap (flat_map text) (range-next 0 n) ∙ flat_map-append text (range_with_len 0 n) ((0 + n) ∷ [])
    ∙ ap (λ more. before ++ more) (append-nil (text (0 + n)) ∙ ap text last))

-- the lines of one row more
pub lines-taken : {R : Type 0} (text : R → List ℕ) (rows : List R) (i : ℕ) (row : R) → i < length rows → row ≡ get_or rows i row
    → flat_map text (take i rows) ++ text row ≡ flat_map text (take (i + 1) rows)
lines-taken text rows i row less is =
    let before = flat_map text (take i rows) in
    sym (ap (flat_map text) (take_more rows i row less) ∙ flat_map-append text (take i rows) (get_or rows i row ∷ [])
    ∙ ap (λ more. before ++ more) (append-nil (text (get_or rows i row)) ∙ ap text (sym is)))
