-- No field is wrong exactly where every check holds.
use Rattle.std.proofs.Common.{◌≡◌, ℕ, ◌≤◌, Bool, true, false, List, [], ◌∷◌, Option, Some, None, refl, arith, ◌==◌}
use Rattle.std.specs.Option.{option_or}
use Rattle.std.proofs.lemmas.Bool.Decides.{nat_tests}
use Rattle.record_codec.specs.Check.{checks, first_false, is_of, is_right}
use Rattle.record_codec.specs.declared.row.Row.{Row}

-- every check of a list holds
abbrev pub AreRight : List (Bool × ℕ) → Type 0
AreRight [] = Unit {0}
AreRight (c ∷ cs) = (c.0 ≡ true) × AreRight cs

pub none-wrong : (cs : List (Bool × ℕ)) → AreRight cs → first_false cs ≡ None
unfolding first_false
none-wrong [] h = refl
none-wrong ((true, at) ∷ cs) h = none-wrong cs h.1
none-wrong ((false, at) ∷ cs) h = cc

pub all-right : (cs : List (Bool × ℕ)) → first_false cs ≡ None → AreRight cs
unfolding first_false
all-right [] h = tt
all-right ((true, at) ∷ cs) h = (refl, all-right cs h)
all-right ((false, at) ∷ cs) h = cc

-- every field of a row is right, field by field
pub record IsRight (of_form at : ℕ) (r : Row) : Type 0 where
  pub form : (r.form == of_form) ≡ true
  pub kind : is_of 1 6 r ≡ true
  pub place : (r.place == at) ≡ true
  pub participant : is_right (is_of 1 3 r) 0 65535 r.participant ≡ true
  pub side : is_right (is_of 1 1 r) 1 2 r.side ≡ true
  pub limit : is_right (is_of 1 2 r) 1 2 r.limit ≡ true
  pub price : is_right (r.limit == 2) 0 4294967295 r.price ≡ true
  pub quantity : is_right (is_of 1 2 r) 0 4294967295 r.quantity ≡ true
  pub target : is_right (is_of 2 3 r) 0 4294967295 r.target ≡ true
  pub moment : is_right (is_of 4 4 r) 0 86399999 r.moment ≡ true
  pub node : is_right (is_of 5 6 r) 0 2 r.node ≡ true

pub IsRight-none : (form place : ℕ) (r : Row) → IsRight form place r → first_false (checks form place r) ≡ None
unfolding checks
IsRight-none form place r h =
    none-wrong (checks form place r)
    (h.form, (h.kind, (h.place, (h.participant, (h.side, (h.limit, (h.price, (h.quantity, (h.target, (h.moment, (h.node, tt)))))))))))

pub IsRight-from : (form place : ℕ) (r : Row) → first_false (checks form place r) ≡ None → IsRight form place r
unfolding checks
IsRight-from form place r found =
    let h = all-right (checks form place r) found in
    let from_place = h.1.1 in
    let from_limit = from_place.1.1.1 in
    let from_target = from_limit.1.1.1 in
    record {
      form = h.0;
      kind = h.1.0;
      place = from_place.0;
      participant = from_place.1.0;
      side = from_place.1.1.0;
      limit = from_limit.0;
      price = from_limit.1.0;
      quantity = from_limit.1.1.0;
      target = from_target.0;
      moment = from_target.1.0;
      node = from_target.1.1.0;
    }

-- where none of two is found, neither is
pub first-none : (a b : Option ℕ) → option_or a b ≡ None → a ≡ None
first-none None b h = refl
first-none (Some x) b h = h

pub second-none : (a b : Option ℕ) → option_or a b ≡ None → b ≡ None
second-none None b h = h
second-none (Some x) b h = cc

-- a field that the event has
pub right-has : (low high value : ℕ) → is_right true low high value ≡ true → (low ≤ value) × (value ≤ high)
unfolding is_right
right-has low high value h = (grind (arith, nat_tests), grind (arith, nat_tests))

pub has-right : (low high value : ℕ) → low ≤ value → value ≤ high → is_right true low high value ≡ true
unfolding is_right
has-right low high value above below = grind (arith, nat_tests)

-- a field that it does not have
pub right-zero : (low high value : ℕ) → is_right false low high value ≡ true → value ≡ 0
unfolding is_right
right-zero low high value h = grind (arith, nat_tests)
