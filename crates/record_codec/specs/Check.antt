-- Which field of a record is wrong first.
use Rattle.std.specs.Prelude.{ℕ, ◌+◌, ◌==◌, Bool, true, false, not, ◌&&◌, List, [], ◌∷◌, Option, Some, None, if◌then◌else◌, nat_le, drop}
use Rattle.std.specs.List.{position}
use Rattle.std.specs.Option.{option_map, option_or}
use Rattle.record_codec.specs.Record.{row_of}
use Rattle.record_codec.specs.declared.row.Row.{Row}

-- a field that the event has is right from low to high, and one that it does not have is zero
unfoldable pub is_right : Bool → ℕ → ℕ → ℕ → Bool
is_right has low high value = if has then nat_le low value && nat_le value high else value == 0

-- the event is one of these kinds
abbrev pub is_of : ℕ → ℕ → Row → Bool
is_of first last r = nat_le first r.kind && nat_le r.kind last

-- each field that may be wrong, and the offset at which it begins. Kind 1 is an order, 2 a change, 3 a cancellation, 4 a
-- clock, 5 a crash and 6 a rejoin.
unfoldable pub checks : ℕ → ℕ → Row → List (Bool × ℕ)
checks form place r =
    (r.form == form, 0)
    ∷ (is_of 1 6 r, 1)
    ∷ (r.place == place, 8)
    ∷ (is_right (is_of 1 3 r) 0 65535 r.participant, 16)
    ∷ (is_right (is_of 1 1 r) 1 2 r.side, 18)
    ∷ (is_right (is_of 1 2 r) 1 2 r.limit, 19)
    ∷ (is_right (r.limit == 2) 0 4294967295 r.price, 20)
    ∷ (is_right (is_of 1 2 r) 0 4294967295 r.quantity, 24)
    ∷ (is_right (is_of 2 3 r) 0 4294967295 r.target, 28)
    ∷ (is_right (is_of 4 4 r) 0 86399999 r.moment, 32)
    ∷ (is_right (is_of 5 6 r) 0 2 r.node, 36)
    ∷ []

-- the offset of the first check that fails
unfoldable pub first_false : List (Bool × ℕ) → Option ℕ
first_false [] = None
first_false ((true, at) ∷ cs) = first_false cs
first_false ((false, at) ∷ cs) = Some at

-- the first offset from 37 on at which a byte is not zero
unfoldable pub first_used : List ℕ → Option ℕ
first_used rec = option_map (λ i. 37 + i) (position (λ b. not (b == 0)) (drop 37 rec))

-- the offset of the first wrong field of a record of a form at a place; none where every field is right
unfoldable pub first_wrong : ℕ → ℕ → List ℕ → Option ℕ
first_wrong form place rec = option_or (first_false (checks form place (row_of rec))) (first_used rec)
