-- Lines of words: they have no LF, and their words are read back.
use Rattle.std.proofs.Common.{◌≡◌, ℕ, zero, suc, ◌+◌, ◌-◌, ◌*◌, ◌/◌, ◌%◌, ◌^◌, ◌<◌, ◌≤◌, ◌==◌, Bool, true, false, not, ◌&&◌, ◌||◌, cond, eqb, ltb, leb, List, [], ◌∷◌, ◌++◌, Some, filter, length, append_assoc, refl, sym, ap, ◌∙◌, arith, rules}
use Rattle.std.specs.Fmt.{decimal, digits, digits_onto, digit_glyph}
use Rattle.std.specs.List.{All, fold, join_with_byte, list_all, slice_index, slice_split}
use Rattle.std.proofs.lemmas.Bool.Decides.{nat_tests}
use Rattle.std.proofs.lemmas.Fmt.{decimal_digit, digits_value-decimal, first_decimal, length-decimal-le}
use Rattle.std.proofs.lemmas.List.Elements.{All-cons, All-nil}
use Rattle.std.proofs.lemmas.List.Splits.{slice_split_at}
use Rattle.std.proofs.lemmas.Str.Parse.{IsNumeralModel, numerals_by_fold}
use Rattle.mkt_base.specs.Text.{line, time_text}
use Rattle.mkt_io.specs.Words.{digits_value, is_blank, is_digit, number_of, words}
use Rattle.mkt_io.proofs.WordLemmas.{words-last}
use Rattle.text_match.specs.Lines.{is_one_line, text_of}

pub both : (a b : Bool) → (a && b) ≡ true → (a ≡ true) × (b ≡ true)
both true b h = (refl, h)
both false b h = absurd (cc)

pub joined : (a b : Bool) → a ≡ true → b ≡ true → (a && b) ≡ true
joined true b h k = k
joined false b h k = absurd (cc)

-- a byte that ends neither a word nor a line
abbrev pub is_plain : ℕ → Bool
is_plain b = not (b == 10) && not (is_blank b)

-- bytes with neither
abbrev pub ArePlain : List ℕ → Type 0
ArePlain word = list_all is_plain word ≡ true

-- a word: some such bytes
pub record IsWord (word : List ℕ) : Type 0 where
  pub plain : ArePlain word
  pub some : 0 < length word

abbrev pub AreWords : List (List ℕ) → Type 0
AreWords [] = Unit {0}
AreWords (w ∷ ws) = IsWord w × AreWords ws

abbrev pub AreAllPlain : List (List ℕ) → Type 0
AreAllPlain [] = Unit {0}
AreAllPlain (w ∷ ws) = ArePlain w × AreAllPlain ws

-- the line of words, without its LF
abbrev pub body : List (List ℕ) → List ℕ
body ws = join_with_byte 32 ws

-- ---- no LF

one-append : (xs ys : List ℕ) → is_one_line xs ≡ true → is_one_line ys ≡ true → is_one_line (xs ++ ys) ≡ true
one-append [] ys h k = k
one-append (x ∷ xs) ys h k = let t = both (not (x == 10)) (is_one_line xs) h in joined (not (x == 10)) (is_one_line (xs ++ ys)) t.0 (one-append xs ys t.1 k)

plain-one : (word : List ℕ) → ArePlain word → is_one_line word ≡ true
plain-one [] h = refl
plain-one (b ∷ word) h =
    let t = both (is_plain b) (list_all is_plain word) h in
    joined (not (b == 10)) (is_one_line word) (both (not (b == 10)) (not (is_blank b)) t.0).0 (plain-one word t.1)

-- a line of plain words has no LF
pub body-one : (ws : List (List ℕ)) → AreAllPlain ws → is_one_line (body ws) ≡ true
body-one [] plain = refl
body-one (w ∷ []) plain = plain-one w plain.0
body-one (w ∷ v ∷ ws) plain = one-append w (32 ∷ body (v ∷ ws)) (plain-one w plain.0) (body-one (v ∷ ws) plain.1)

-- the text of a line of words
pub text-of_body : (ws : List (List ℕ)) (lines : List (List ℕ)) → text_of (body ws ∷ lines) ≡ line ws ++ text_of lines
text-of_body ws lines = sym (append_assoc (body ws) (10 ∷ []) (text_of lines))

pub words-plain : (ws : List (List ℕ)) → AreWords ws → AreAllPlain ws
words-plain [] are = tt
words-plain (w ∷ ws) are = (are.0.plain, words-plain ws are.1)

-- ---- read back

not-blank : (word : List ℕ) → ArePlain word → All (λ b. is_blank b ≡ false) word
not-blank [] h = All-nil (λ b. is_blank b ≡ false)
not-blank (b ∷ word) h =
    let t = both (is_plain b) (list_all is_plain word) h in
    let u = both (not (b == 10)) (not (is_blank b)) t.0 in
    All-cons (λ b. is_blank b ≡ false) b word (not-true (is_blank b) u.1) (not-blank word t.1)
  where
    not-true : (t : Bool) → not t ≡ true → t ≡ false
    not-true true h = absurd (cc)
    not-true false h = refl

kept : (w : List ℕ) (ws : List (List ℕ)) → 0 < length w → filter (λ part. ltb 0 (length part)) (w ∷ ws) ≡ w ∷ filter (λ part. ltb 0 (length part)) ws
kept [] ws h = absurd (omega (arith, h))
kept (b ∷ w) ws h = grind (arith, nat_tests)

-- the first word of a line
pub words-front : (w rest : List ℕ) → IsWord w → words (w ++ 32 ∷ rest) ≡ w ∷ words rest
unfolding words
words-front w rest is =
    ap (λ parts. filter (λ part. ltb 0 (length part)) parts) (slice_split_at is_blank w 32 rest (not-blank w is.plain) refl) ∙ kept w (slice_split is_blank rest) is.some

-- the words of a line of words
pub words-body : (ws : List (List ℕ)) → AreWords ws → words (body ws) ≡ ws
unfolding words
words-body [] are = refl
words-body (w ∷ []) are = words-last w (not-blank w are.0.plain) are.0.some
words-body (w ∷ v ∷ ws) are = words-front w (body (v ∷ ws)) are.0 ∙ ap (λ vs. w ∷ vs) (words-body (v ∷ ws) are.1)

-- a line begins with its first word
pub words-begin : (w : List ℕ) (ws : List (List ℕ)) → IsWord w → (more : List (List ℕ)) × (words (body (w ∷ ws)) ≡ w ∷ more)
words-begin w [] is = ([], words-last w (not-blank w is.plain) is.some)
words-begin w (v ∷ ws) is = (words (body (v ∷ ws)), words-front w (body (v ∷ ws)) is)

-- ---- numbers

digit-plain : (b : ℕ) → is_digit b ≡ true → is_plain b ≡ true
digit-plain b h =
    let t = both (leb 48 b) (leb b 57) h in
    let low : 48 ≤ b = grind (arith, nat_tests, t.0) in
    at (eqb b 10) (eqb b 32) (eqb b 9) (grind (arith, nat_tests, low)) (grind (arith, nat_tests, low)) (grind (arith, nat_tests, low))
  where
    at : (x y z : Bool) → x ≡ false → y ≡ false → z ≡ false → (not x && not (y || z)) ≡ true
    at x y z e f g = rw (e, f, g) refl

digits-plain : (ds : List ℕ) → list_all is_digit ds ≡ true → ArePlain ds
digits-plain [] h = refl
digits-plain (d ∷ ds) h = let t = both (is_digit d) (list_all is_digit ds) h in joined (is_plain d) (list_all is_plain ds) (digit-plain d t.0) (digits-plain ds t.1)

glyph-digit : (d : ℕ) → d < 10 → is_digit (digit_glyph false d) ≡ true
glyph-digit d h =
    let small : ltb d 10 ≡ true = grind (arith, nat_tests, h) in
    let low : leb 48 (48 + d) ≡ true = grind (arith, nat_tests) in
    let high : leb (48 + d) 57 ≡ true = grind (arith, nat_tests, h) in
    rw (small) (joined (leb 48 (48 + d)) (leb (48 + d) 57) low high)

onto-digits : (k n : ℕ) (acc : List ℕ) → list_all is_digit acc ≡ true → list_all is_digit (digits_onto k 10 false n acc) ≡ true
onto-digits zero n acc h = h
onto-digits (suc k) n acc h =
    at (eqb (n / 10) 0) (joined (is_digit (digit_glyph false (n % 10))) (list_all is_digit acc) (glyph-digit (n % 10) (omega arith)) h) (onto-digits k (n / 10) (digit_glyph false (n % 10) ∷ acc))
  where
    at : (b : Bool) → list_all is_digit (digit_glyph false (n % 10) ∷ acc) ≡ true
        → (list_all is_digit (digit_glyph false (n % 10) ∷ acc) ≡ true → list_all is_digit (digits_onto k 10 false (n / 10) (digit_glyph false (n % 10) ∷ acc)) ≡ true)
        → list_all is_digit (cond b (digit_glyph false (n % 10) ∷ acc) (digits_onto k 10 false (n / 10) (digit_glyph false (n % 10) ∷ acc))) ≡ true
    at true here more = here
    at false here more = more here

-- the digits of any number are digits
pub decimal-digits : (n : ℕ) → list_all is_digit (decimal n) ≡ true
unfolding digits
decimal-digits n = onto-digits 64 n [] refl

pub decimal-plain : (n : ℕ) → ArePlain (decimal n)
decimal-plain n = digits-plain (decimal n) (decimal-digits n)

onto-some : (k n : ℕ) (acc : List ℕ) → 0 < length acc → 0 < length (digits_onto k 10 false n acc)
onto-some zero n acc h = h
onto-some (suc k) n acc h = at (eqb (n / 10) 0) (onto-some k (n / 10) (digit_glyph false (n % 10) ∷ acc) (omega arith))
  where
    at : (b : Bool) → 0 < length (digits_onto k 10 false (n / 10) (digit_glyph false (n % 10) ∷ acc))
        → 0 < length (cond b (digit_glyph false (n % 10) ∷ acc) (digits_onto k 10 false (n / 10) (digit_glyph false (n % 10) ∷ acc)))
    at true more = omega arith
    at false more = more

decimal-some : (n : ℕ) → 0 < length (decimal n)
unfolding digits
decimal-some n = at (eqb (n / 10) 0) (onto-some 63 (n / 10) (digit_glyph false (n % 10) ∷ []) (omega arith))
  where
    at : (b : Bool) → 0 < length (digits_onto 63 10 false (n / 10) (digit_glyph false (n % 10) ∷ []))
        → 0 < length (cond b (digit_glyph false (n % 10) ∷ []) (digits_onto 63 10 false (n / 10) (digit_glyph false (n % 10) ∷ [])))
    at true more = omega arith
    at false more = more

-- the digits of a number are a word
pub decimal-word : (n : ℕ) → IsWord (decimal n)
decimal-word n = record { plain = decimal-plain n; some = decimal-some n }

or-true : (b : Bool) → (b || true) ≡ true
or-true true = refl
or-true false = refl

own : IsNumeralModel (λ ds. list_all is_digit ds ≡ true) digits_value
own = numerals_by_fold _ (search rules) (λ n ds. fold (λ n digit. 10 * n + (digit - 48)) n ds) (search rules)

-- a number of 32 bits is read back
pub number-back : (n : ℕ) → n < 2 ^ 32 → number_of (decimal n) ≡ Some n
unfolding number_of
number-back n small =
    let value : digits_value (decimal n) ≡ n = digits_value-decimal own n (omega (arith, small)) in
    let some : leb 1 (length (decimal n)) ≡ true = grind (arith, nat_tests, decimal-some n) in
    let few : leb (length (decimal n)) 10 ≡ true = grind (arith, nat_tests, length-decimal-le 10 n (omega arith) (omega (arith, small)) (omega (arith, small))) in
    let below : ltb n (2 ^ 32) ≡ true = grind (arith, nat_tests, small) in
    rw (decimal-digits n, some, few, first n small, value, below) refl
  where
    first : (n : ℕ) → n < 2 ^ 32 → (eqb (length (decimal n)) 1 || not (eqb (slice_index (decimal n) 0) 48)) ≡ true
    first zero small = rw (decimal_digit 0 (omega arith)) refl
    first (suc n) small =
        let above = first_decimal (suc n) (omega arith) (omega (arith, small)) in
        let other : eqb (slice_index (decimal (suc n)) 0) 48 ≡ false = grind (arith, nat_tests, above) in
        rw (other) (or-true (eqb (length (decimal (suc n))) 1))

-- ---- times

pub byte-plain : (b : ℕ) → 48 ≤ b → is_plain b ≡ true
byte-plain b low =
    let a : eqb b 10 ≡ false = grind (arith, nat_tests, low) in
    let c : eqb b 32 ≡ false = grind (arith, nat_tests, low) in
    let d : eqb b 9 ≡ false = grind (arith, nat_tests, low) in
    rw (a, c, d) refl

pub time-word : (ms : ℕ) → IsWord (time_text ms)
time-word ms =
    let p : (n : ℕ) → is_plain (48 + n) ≡ true = λ n. byte-plain (48 + n) (omega arith) in
    record {
      plain = rw (
        p (ms / 3600000 / 10),
        p (ms / 3600000 % 10),
        p (ms / 60000 % 60 / 10),
        p (ms / 60000 % 60 % 10),
        p (ms / 1000 % 60 / 10),
        p (ms / 1000 % 60 % 10),
        p (ms % 1000 / 100),
        p (ms % 1000 % 100 / 10),
        p (ms % 1000 % 100 % 10),
      ) refl;
      some = omega arith;
    }
