-- Where the words of a line end, as the bits of a number.
use Rattle.std.proofs.Common.{◌≡◌, ℕ, suc, Bool, true, false, slice_get, IfSome, ◌+◌, ◌-◌, ◌*◌, ◌/◌, ◌%◌, ◌^◌, ◌<◌, ◌≤◌, cond, List, [], ◌∷◌, ◌++◌, length, take, drop, map, length-append, length-drop, append_assoc, append-nil, eqb, refl, sym, ap, ◌∙◌, arith}
use lib.Count.{count_trailing_zeros}
use lib.Lanes.{chunk}
use Rattle.std.specs.List.{position_or_len}
use Rattle.std.specs.Simd.Lanes.{mask_l}
use Rattle.std.proofs.lemmas.Bool.Decides.{nat_tests}
use Rattle.std.proofs.lemmas.List.{drop-append-le, drop-drop, drop-map, length-map, map-append, take_all}
use Rattle.std.proofs.lemmas.List.Folds.{position_or_len_push}
use Rattle.std.proofs.lemmas.Simd.{chunk-drop, length-chunk, mask_l-lt, trailing_mask_l}
use Rattle.std.proofs.Math.Nat.{pow-le-pow_right}
use Rattle.mkt_io.specs.Ends.{ends_of}
use Rattle.mkt_io.specs.Words.{is_blank}
use Rattle.mkt_io.proofs.MaskLemmas.{mask-append, mask-drop}

-- without the first bytes
pub ends-drop : (line : List ℕ) (k : ℕ) → k ≤ length line → ends_of (drop k line) ≡ ends_of line / 2 ^ k
ends-drop line k h =
    ap (λ text. mask_l (map is_blank text)) (sym (drop-append-le k line (32 ∷ []) h)) ∙ ap mask_l (sym (drop-map is_blank k (line ++ 32 ∷ [])))
    ∙ mask-drop k (map is_blank (line ++ 32 ∷ []))

-- with a piece before them
pub ends-more : (piece rest : List ℕ) → ends_of (piece ++ rest) ≡ mask_l (map is_blank piece) + 2 ^ length piece * ends_of rest
ends-more piece rest =
    ap (λ text. mask_l (map is_blank text)) (append_assoc piece rest (32 ∷ [])) ∙ ap mask_l (map-append is_blank piece (rest ++ 32 ∷ []))
    ∙ mask-append (map is_blank piece) (map is_blank (rest ++ 32 ∷ [])) ∙ ap (λ n. mask_l (map is_blank piece) + 2 ^ n * ends_of rest) (length-map piece is_blank)

ends-lt : (line : List ℕ) → ends_of line < 2 ^ suc (length line)
ends-lt line =
    let long : length (map is_blank (line ++ 32 ∷ [])) ≡ suc (length line) = omega (arith, length-map (line ++ 32 ∷ []) is_blank, length-append line (32 ∷ [])) in
    rw (← long) (mask_l-lt (map is_blank (line ++ 32 ∷ [])))

-- as many bits as there are bytes left, and one
pub ends-fit : (line : List ℕ) (at room : ℕ) → length line < at + room → at ≤ length line → ends_of (drop at line) < 2 ^ room
ends-fit line at room h within =
    let few : suc (length (drop at line)) ≤ room = omega (arith, length-drop at line, h, within) in
    omega (arith, ends-lt (drop at line), pow-le-pow_right {n = 2} (omega arith) {i = suc (length (drop at line))} {j = room} few)

ends-some : (line : List ℕ) → 0 < ends_of line
ends-some [] = omega arith
ends-some (b ∷ line) = omega (arith, ends-some line)

at-end : (a b : ℕ) → cond (eqb a b) (b + 0) a ≡ a
at-end a b = grind (arith, nat_tests)

-- the first of them is where the first word ends
pub ends-first : (line : List ℕ) → length line < 64 → count_trailing_zeros 64 (ends_of line) ≡ position_or_len is_blank line
ends-first line h =
    trailing_mask_l is_blank 64 (line ++ 32 ∷ []) (omega (arith, length-append line (32 ∷ []), h)) (ends-some line) ∙ position_or_len_push is_blank line 32
    ∙ at-end (position_or_len is_blank line) (length line)

-- some bytes more in front
pub ends-step : (width : ℕ) (line : List ℕ) (at ends : ℕ) → width ≤ at → at ≤ length line → ends ≡ ends_of (drop at line)
    → ends_of (drop (at - width) line) ≡ mask_l (map is_blank (take width (drop (at - width) line))) + 2 ^ width * ends
ends-step width line at ends low high is =
    let piece = chunk (at - width) width line in
    let long : length piece ≡ width = length-chunk (at - width) width line (omega (arith, low, high)) in
    let back : at - width + width ≡ at = omega (arith, low) in
    ap ends_of (chunk-drop (at - width) width line) ∙ ends-more piece (drop (at - width + width) line) ∙ rw (long, back, ← is) refl

-- the last bytes, fewer than a piece has
pub ends-last : (width : ℕ) (line : List ℕ) (over : ℕ) → over < width → width ≤ length line
    → ends_of (drop (length line - over) line) ≡ mask_l (map is_blank (take width (drop (length line - width) line))) / 2 ^ (width - over) + 2 ^ over
ends-last width line over low long =
    let last = drop (length line - width) line in
    let tail = drop (length line - over) line in
    let all : take width last ≡ last = take_all width last (omega (arith, length-drop (length line - width) line, long)) in
    let at : length line - width + (width - over) ≡ length line - over = omega (arith, low, long) in
    let same : drop (width - over) last ≡ tail = rw (drop-drop (width - over) (length line - width) line, at) refl in
    let few : length tail ≡ over = omega (arith, length-drop (length line - over) line, low, long) in
    let mask : mask_l (map is_blank (take width last)) / 2 ^ (width - over) ≡ mask_l (map is_blank tail) =
    rw all (sym (mask-drop (width - over) (map is_blank last)) ∙ ap mask_l (drop-map is_blank (width - over) last ∙ ap (map is_blank) same)) in
    let more : ends_of tail ≡ mask_l (map is_blank tail) + 2 ^ length tail * 1 = ap ends_of (sym (append-nil tail)) ∙ ends-more tail [] in
    let power : 2 ^ length tail ≡ 2 ^ over = ap (λ n. 2 ^ n) few in
    omega (arith, mask, more, power)

-- where no word ends at once, a word begins
pub ends-even : (line : List ℕ) → ends_of line % 2 ≡ 0 → IfSome (slice_get line 0) (λ b. is_blank b ≡ false)
ends-even [] even = tt
ends-even (b ∷ line) even = first (is_blank b) (ends_of line) even
  where
    first : (blank : Bool) (n : ℕ) → (cond blank 1 0 + 2 * n) % 2 ≡ 0 → blank ≡ false
    first true n h = absurd (omega (arith, h))
    first false n h = refl
