-- Lines of texts, and texts of lines.
use Rattle.std.proofs.Common.{◌≡◌, ℕ, suc, ◌+◌, ◌≤◌, Bool, true, false, not, ◌&&◌, zero, List, [], ◌∷◌, ◌++◌, length, take, drop, ◌==◌, ◌<◌, cond, eqb, append_assoc, refl, sym, ap, ◌∙◌, arith}
use Rattle.std.specs.List.{All, position_or_len}
use Rattle.std.proofs.lemmas.Bool.Decides.{nat_tests}
use Rattle.std.proofs.lemmas.List.{drop_all}
use Rattle.text_match.specs.Lines.{in_front, is_one_line, lines_of, text_of}
use Rattle.text_match.proofs.FrontLemmas.{take_drop}

-- lines that have no LF in them
abbrev pub AreLines : List (List ℕ) → Type 0
AreLines [] = Unit {0}
AreLines (line ∷ more) = (is_one_line line ≡ true) × AreLines more

-- a line and its LF in front of a text
pub lines-of_line : (line rest : List ℕ) → is_one_line line ≡ true → lines_of (line ++ 10 ∷ rest) ≡ line ∷ lines_of rest
unfolding lines_of
lines-of_line [] rest one = refl
lines-of_line (b ∷ line) rest one = at (eqb b 10) one (lines-of_line line rest)
  where
    at : (t : Bool) → not t && is_one_line line ≡ true → (is_one_line line ≡ true → lines_of (line ++ 10 ∷ rest) ≡ line ∷ lines_of rest)
        → cond t ([] ∷ lines_of (line ++ 10 ∷ rest)) (in_front b (lines_of (line ++ 10 ∷ rest))) ≡ (b ∷ line) ∷ lines_of rest
    at true one more = absurd (cc)
    at false one more = ap (in_front b) (more one)

-- the lines of a text of lines, and of what stands behind them
pub lines-of_text : (lines : List (List ℕ)) (rest : List ℕ) → AreLines lines → lines_of (text_of lines ++ rest) ≡ lines ++ lines_of rest
lines-of_text [] rest are = refl
lines-of_text (line ∷ lines) rest are =
    ap lines_of (append_assoc line (10 ∷ text_of lines) rest) ∙ lines-of_line line (text_of lines ++ rest) are.0 ∙ ap (λ ls. line ∷ ls) (lines-of_text lines rest are.1)

-- a text of lines, and of other lines behind them
pub text-of_append : (xs ys : List (List ℕ)) → text_of (xs ++ ys) ≡ text_of xs ++ text_of ys
text-of_append [] ys = refl
text-of_append (x ∷ xs) ys = ap (λ t. x ++ 10 ∷ t) (text-of_append xs ys) ∙ sym (append_assoc x (10 ∷ text_of xs) (text_of ys))

-- what the lines of a text leave of it: a piece behind the last LF
pub record IsTail (text : List ℕ) (lines : List (List ℕ)) (tail : List ℕ) : Type 0 where
  pub whole : text ≡ text_of lines ++ tail
  pub lines_are : AreLines lines
  pub none : lines_of tail ≡ []

in_front-tail : (b : ℕ) (text : List ℕ) (lines : List (List ℕ)) (tail : List ℕ) → eqb b 10 ≡ false → IsTail text lines tail
    → (lines_of text ≡ lines) → (more : List ℕ) × IsTail (b ∷ text) (in_front b lines) more
unfolding lines_of
in_front-tail b text [] tail other is e = (b ∷ tail, record { whole = ap (λ t. b ∷ t) is.whole; lines_are = tt; none = rw (other, is.none) refl })
in_front-tail b text (line ∷ lines) tail other is e =
    (tail, record { whole = ap (λ t. b ∷ t) is.whole; lines_are = (rw other is.lines_are.0, is.lines_are.1); none = is.none })

-- a text is its lines, and a piece behind them
pub tail_of : (text : List ℕ) → (tail : List ℕ) × IsTail text (lines_of text) tail
unfolding lines_of
tail_of [] = ([], record { whole = refl; lines_are = tt; none = refl })
tail_of (b ∷ text) = at (eqb b 10) refl (tail_of text)
  where
    at : (t : Bool) → eqb b 10 ≡ t → ((tail : List ℕ) × IsTail text (lines_of text) tail)
        → (tail : List ℕ) × IsTail (b ∷ text) (cond t ([] ∷ lines_of text) (in_front b (lines_of text))) tail
    at true e (tail, is) =
        let ten : b ≡ 10 = grind (arith, nat_tests, e) in
        (tail, record { whole = rw ten (ap (λ t. 10 ∷ t) is.whole); lines_are = (refl, is.lines_are); none = is.none })
    at false e (tail, is) = in_front-tail b text (lines_of text) tail e is refl

-- the lines of a front of a text are its first lines
pub lines-of_front : (front more : List ℕ) → (rest : List (List ℕ)) × (lines_of (front ++ more) ≡ lines_of front ++ rest)
lines-of_front front more =
    let tail = tail_of front in
    let whole : front ++ more ≡ text_of (lines_of front) ++ (tail.0 ++ more) = ap (λ t. t ++ more) tail.1.whole ∙ append_assoc (text_of (lines_of front)) tail.0 more in
    (lines_of (tail.0 ++ more), ap lines_of whole ∙ lines-of_text (lines_of front) (tail.0 ++ more) tail.1.lines_are)

-- the first lines of lines
pub AreLines-take : (n : ℕ) (lines : List (List ℕ)) → AreLines lines → AreLines (take n lines)
AreLines-take zero lines are = tt
AreLines-take (suc n) [] are = tt
AreLines-take (suc n) (line ∷ lines) are = (are.0, AreLines-take n lines are.1)

-- a text begins with its first lines
pub text-of_first : (n : ℕ) (text : List ℕ) → (rest : List ℕ) × (text ≡ text_of (take n (lines_of text)) ++ rest)
text-of_first n text =
    let tail = tail_of text in
    let lines = lines_of text in
    let cut : text_of lines ≡ text_of (take n lines) ++ text_of (drop n lines) = ap text_of (sym (take_drop n lines)) ∙ text-of_append (take n lines) (drop n lines) in (
      text_of (drop n lines) ++ tail.0,
      tail.1.whole ∙ ap (λ t. t ++ tail.0) cut ∙ append_assoc (text_of (take n lines)) (text_of (drop n lines)) tail.0,
    )

-- the first line ends at the first LF
pub lines-first : (text : List ℕ) (end : ℕ) → position_or_len (λ b. b == 10) text ≡ end → end < length text → lines_of text ≡ take end text ∷ lines_of (drop (end + 1) text)
unfolding lines_of
lines-first [] end e h = absurd (omega (arith, h))
lines-first (b ∷ text) end e h = at (eqb b 10) end e h (lines-first text)
  where
    at : (t : Bool) (end : ℕ) → cond (not t) (1 + position_or_len (λ b. b == 10) text) 0 ≡ end → end < suc (length text)
        → ((end : ℕ) → position_or_len (λ b. b == 10) text ≡ end → end < length text → lines_of text ≡ take end text ∷ lines_of (drop (end + 1) text))
        → cond t ([] ∷ lines_of text) (in_front b (lines_of text)) ≡ take end (b ∷ text) ∷ lines_of (drop (end + 1) (b ∷ text))
    at true zero e h more = refl
    at true (suc end) e h more = absurd (omega (arith, e))
    at false zero e h more = absurd (omega (arith, e))
    at false (suc end) e h more =
        let next : end + 1 ≡ suc end = omega arith in
        let beyond : suc end + 1 ≡ suc (suc end) = omega arith in
        ap (in_front b) (more end (omega (arith, e)) (omega (arith, h))) ∙ ap (λ k. take (suc end) (b ∷ text) ∷ lines_of (drop k text)) next
        ∙ ap (λ k. take (suc end) (b ∷ text) ∷ lines_of (drop k (b ∷ text))) (sym beyond)

-- a text without LF has no line
pub lines-none : (text : List ℕ) → All (λ b. (b == 10) ≡ false) text → lines_of text ≡ []
unfolding lines_of
lines-none [] none = refl
lines-none (b ∷ text) none =
    let head : eqb b 10 ≡ false = none 0 b (omega arith) in
    rw (head, lines-none text (λ k d h. none (suc k) d (omega (arith, h)))) refl

-- at a byte the lines behind it are left, and the line that it ends
pub lines-byte : (bytes : List ℕ) (i n : ℕ) (b : ℕ) (more : List ℕ) → drop i bytes ≡ b ∷ more → b ≡ 10 → n + length (lines_of (drop i bytes)) ≡ length (lines_of bytes)
    → n + 1 + length (lines_of more) ≡ length (lines_of bytes)
unfolding lines_of
lines-byte bytes i n b more left ten all =
    let test : eqb b 10 ≡ true = rw ten refl in
    let lines : lines_of (drop i bytes) ≡ [] ∷ lines_of more = ap lines_of left ∙ rw test refl in
    omega (arith, all, ap length lines)

length-in_front : (b : ℕ) (lines : List (List ℕ)) → length (in_front b lines) ≡ length lines
length-in_front b [] = refl
length-in_front b (line ∷ lines) = refl

pub lines-no_byte : (bytes : List ℕ) (i n : ℕ) (b : ℕ) (more : List ℕ) → drop i bytes ≡ b ∷ more → (b ≡ 10 → ⊥) → n + length (lines_of (drop i bytes)) ≡ length (lines_of bytes)
    → n + length (lines_of more) ≡ length (lines_of bytes)
unfolding lines_of
lines-no_byte bytes i n b more left other all =
    let test : eqb b 10 ≡ false = grind (arith, nat_tests, other) in
    let lines : lines_of (drop i bytes) ≡ in_front b (lines_of more) = ap lines_of left ∙ rw test refl in
    omega (arith, all, ap length lines, length-in_front b (lines_of more))

-- no byte is left
pub lines-end : (bytes : List ℕ) (i n : ℕ) → length bytes ≤ i → n + length (lines_of (drop i bytes)) ≡ length (lines_of bytes) → n ≡ length (lines_of bytes)
unfolding lines_of
lines-end bytes i n end all = omega (arith, all, ap (λ xs. length (lines_of xs)) (drop_all i bytes end))
