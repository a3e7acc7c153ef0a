-- What is written is read, and what is read is written.
use Rattle.std.proofs.Common.{◌≡◌, ℕ, zero, suc, ◌+◌, ◌<◌, ◌≤◌, ◌^◌, ◌==◌, Bool, true, false, not, cond, List, [], ◌∷◌, ◌++◌, length, drop, slice_index, replicate, nat_lt, Option, Some, None, option_map, position, refl, sym, ap, ◌∙◌, arith, lit<, add-zero, drop-cons, length-drop}
use Rattle.std.specs.List.{prefix_len}
use Rattle.std.proofs.lemmas.Bool.Decides.{nat_tests}
use Rattle.std.proofs.lemmas.Nat.{from_be_bytes-to_be_bytes_2, from_be_bytes-to_be_bytes_4, from_be_bytes-to_be_bytes_8, be_bytes_2, be_bytes_4, be_bytes_8}
use Rattle.record_codec.specs.Check.{first_used}
use Rattle.record_codec.specs.Record.{bytes_of, row_of, two_bytes, four_bytes, eight_bytes, two_at, four_at, eight_at, byte_at}
use Rattle.record_codec.specs.declared.row.Row.{Row}

-- the numbers of a row are of the types of its fields
pub record Fits (r : Row) : Type 0 where
  pub caller : r.caller < 2 ^ 16
  pub own : r.own < 2 ^ 32
  pub place : r.place < 2 ^ 64
  pub participant : r.participant < 2 ^ 16
  pub price : r.price < 2 ^ 32
  pub quantity : r.quantity < 2 ^ 32
  pub target : r.target < 2 ^ 32
  pub moment : r.moment < 2 ^ 32

pub row_of-bytes_of : (r : Row) → Fits r → row_of (bytes_of r) ≡ r
unfolding row_of bytes_of two_bytes four_bytes eight_bytes two_at four_at eight_at
row_of-bytes_of r h =
    rw (
      from_be_bytes-to_be_bytes_2 r.caller h.caller,
      from_be_bytes-to_be_bytes_4 r.own h.own,
      from_be_bytes-to_be_bytes_8 r.place h.place,
      from_be_bytes-to_be_bytes_2 r.participant h.participant,
      from_be_bytes-to_be_bytes_4 r.price h.price,
      from_be_bytes-to_be_bytes_4 r.quantity h.quantity,
      from_be_bytes-to_be_bytes_4 r.target h.target,
      from_be_bytes-to_be_bytes_4 r.moment h.moment,
    )
    refl

pub first_used-bytes_of : (r : Row) → first_used (bytes_of r) ≡ None
unfolding first_used bytes_of two_bytes four_bytes eight_bytes
first_used-bytes_of r = refl

-- the numbers of a list are bytes
pub record AreBytes (xs : List ℕ) : Type 0 where
  pub small : (j : ℕ) → slice_index xs j < 256

more : {a : ℕ} {xs : List ℕ} → a < 256 → AreBytes xs → AreBytes (a ∷ xs)
more {a} {xs} below h = record { small = λ j. below-at j }
  where
    below-at : (j : ℕ) → slice_index (a ∷ xs) j < 256
    below-at zero = below
    below-at (suc j) = h.small j

none : AreBytes []
none = record { small = λ j. lit< tt }

module _ (rec : List ℕ) (bytes : AreBytes rec) where
  two-at-bytes : (i : ℕ) → two_bytes (two_at rec i) ≡ byte_at rec i ∷ byte_at rec (i + 1) ∷ []
  unfolding two_bytes two_at
  two-at-bytes i = be_bytes_2 (byte_at rec i ∷ byte_at rec (i + 1) ∷ []) _ refl
      (more (bytes.small i) (more (bytes.small (i + 1)) none)).small refl

  four-at-bytes : (i : ℕ) → four_bytes (four_at rec i) ≡ byte_at rec i ∷ byte_at rec (i + 1) ∷ byte_at rec (i + 2) ∷ byte_at rec (i + 3) ∷ []
  unfolding four_bytes four_at
  four-at-bytes i =
      be_bytes_4 (byte_at rec i ∷ byte_at rec (i + 1) ∷ byte_at rec (i + 2) ∷ byte_at rec (i + 3) ∷ []) _ refl
      (more (bytes.small i) (more (bytes.small (i + 1)) (more (bytes.small (i + 2)) (more (bytes.small (i + 3)) none)))).small refl

  eight-at-bytes : (i : ℕ) → eight_bytes (eight_at rec i)
      ≡ byte_at rec i ∷ byte_at rec (i + 1) ∷ byte_at rec (i + 2) ∷ byte_at rec (i + 3) ∷ byte_at rec (i + 4) ∷ byte_at rec (i + 5) ∷ byte_at rec (i + 6) ∷ byte_at rec (i + 7) ∷ []
  unfolding eight_bytes eight_at
  eight-at-bytes i =
      be_bytes_8 (byte_at rec i ∷ byte_at rec (i + 1) ∷ byte_at rec (i + 2) ∷ byte_at rec (i + 3) ∷ byte_at rec (i + 4) ∷ byte_at rec (i + 5) ∷ byte_at rec (i + 6) ∷ byte_at rec (i + 7) ∷ []) _ refl
      (more (bytes.small i) (more (bytes.small (i + 1)) (more (bytes.small (i + 2)) (more (bytes.small (i + 3))
      (more (bytes.small (i + 4)) (more (bytes.small (i + 5)) (more (bytes.small (i + 6)) (more (bytes.small (i + 7)) none)))))))).small refl

-- n bytes from an offset on
abbrev bytes_from : ℕ → ℕ → List ℕ → List ℕ
bytes_from zero i rec = []
bytes_from (suc n) i rec = byte_at rec i ∷ bytes_from n (suc i) rec

-- they stand in front of what is behind them
bytes_from-append : (n i : ℕ) (rec : List ℕ) → i + n ≤ length rec → bytes_from n i rec ++ drop (i + n) rec ≡ drop i rec
bytes_from-append zero i rec h = rw add-zero refl
bytes_from-append (suc n) i rec h =
    let rest : bytes_from n (suc i) rec ++ drop (suc i + n) rec ≡ drop (suc i) rec = bytes_from-append n (suc i) rec (omega arith) in
    let same : i + suc n ≡ suc i + n = omega arith in
    rw same (ap (λ xs. byte_at rec i ∷ xs) rest ∙ sym (drop-cons rec i 0 (omega arith)))

-- bytes of which none is not zero
all-zero : (xs : List ℕ) → length xs ≤ prefix_len (λ b. not (not (b == 0))) xs → xs ≡ replicate (length xs) 0
all-zero [] h = refl
all-zero (zero ∷ xs) h = ap (λ rest. 0 ∷ rest) (all-zero xs (omega arith))
all-zero (suc b ∷ xs) h = absurd (grind (arith, nat_tests, h))

none-found : (f : ℕ → ℕ) (o : Option ℕ) → option_map f o ≡ None → o ≡ None
none-found f None h = refl
none-found f (Some i) h = cc

none-at-all : (b : Bool) (i : ℕ) → cond b (Some i) None ≡ None → b ≡ false
none-at-all true i h = cc
none-at-all false i h = refl

-- no byte from 37 on is used: they are zero
zeros-behind : (rec : List ℕ) → length rec ≡ 48 → first_used rec ≡ None → drop 37 rec ≡ replicate 11 0
unfolding first_used
zeros-behind rec len h =
    let tail = drop 37 rec in
    let none : position (λ b. not (b == 0)) tail ≡ None = none-found (λ i. 37 + i) _ h in
    let past : nat_lt (prefix_len (λ b. not (not (b == 0))) tail) (length tail) ≡ false = none-at-all _ _ none in
    let zero_all : tail ≡ replicate (length tail) 0 = all-zero tail (grind (arith, nat_tests, past)) in
    let eleven : length tail ≡ 11 = length-drop 37 rec ∙ (omega arith) in
    zero_all ∙ ap (λ n. replicate n 0) eleven

-- what is read of a record is what its bytes spell
pub bytes_of-row_of : (rec : List ℕ) → length rec ≡ 48 → AreBytes rec → first_used rec ≡ None → bytes_of (row_of rec) ≡ rec
unfolding bytes_of row_of
bytes_of-row_of rec len bytes unused =
    let front : bytes_from 37 0 rec ++ drop 37 rec ≡ rec = bytes_from-append 37 0 rec (omega arith) in
    rw (
      two-at-bytes rec bytes 2,
      four-at-bytes rec bytes 4,
      eight-at-bytes rec bytes 8,
      two-at-bytes rec bytes 16,
      four-at-bytes rec bytes 20,
      four-at-bytes rec bytes 24,
      four-at-bytes rec bytes 28,
      four-at-bytes rec bytes 32,
      ← zeros-behind rec len unused,
    )
    front

module _ (rec : List ℕ) (bytes : AreBytes rec) where
  two-fits : (i : ℕ) → two_at rec i < 2 ^ 16
  unfolding two_at
  two-fits i = omega (arith, bytes.small i, bytes.small (i + 1))

  four-fits : (i : ℕ) → four_at rec i < 2 ^ 32
  unfolding four_at
  four-fits i = omega (arith, bytes.small i, bytes.small (i + 1), bytes.small (i + 2), bytes.small (i + 3))

  eight-fits : (i : ℕ) → eight_at rec i < 2 ^ 64
  unfolding eight_at
  eight-fits i =
      omega (arith, bytes.small i, bytes.small (i + 1), bytes.small (i + 2), bytes.small (i + 3), bytes.small (i + 4), bytes.small (i + 5), bytes.small (i + 6), bytes.small (i + 7))

-- the numbers of a record are of the types of its fields
pub Fits-row_of : (rec : List ℕ) → AreBytes rec → Fits (row_of rec)
unfolding row_of
Fits-row_of rec bytes =
    record {
      caller = two-fits rec bytes 2;
      own = four-fits rec bytes 4;
      place = eight-fits rec bytes 8;
      participant = two-fits rec bytes 16;
      price = four-fits rec bytes 20;
      quantity = four-fits rec bytes 24;
      target = four-fits rec bytes 28;
      moment = four-fits rec bytes 32;
    }
