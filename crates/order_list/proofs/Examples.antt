-- Worked examples: the definitions compute to what a reader of the rules would say.
use Rattle.std.specs.Prelude.{◌≡◌, ℕ, zero, suc, List, [], ◌∷◌, Option, Some, None, refl}
use Rattle.std.proofs.Common.{lit<}
use Rattle.std.specs.List.{after_first}
use Rattle.order_list.specs.Key.{beside_of, bits_of}
use Rattle.order_list.specs.declared.link.Beside.TheVariants.{Neighbour, End}
use Rattle.order_list.specs.Lists.{IsIn, Linked, first_link, is_at, list_at, with_before, with_item, with_last, without}
use Rattle.order_list.specs.Pool.{by_place, put_by_place}
use Rattle.order_list.specs.declared.kept.Kept.{Kept}

abbrev node : ℕ → ℕ → Linked ℕ
node link item = record { link = link; item = item }

-- the items 7 and 8 in the first of two lists
abbrev two : List (List (Linked ℕ))
two = (node 0 7 ∷ node 1 8 ∷ []) ∷ [] ∷ []

the_first : first_link (list_at two 0) ≡ Some 0
the_first = refl

nothing_in_the_second : first_link (list_at two 1) ≡ None
nothing_in_the_second = refl

nothing_past_the_lists : list_at two 2 ≡ []
nothing_past_the_lists = refl

after_the_first : first_link (after_first (is_at 0) (list_at two 0)) ≡ Some 1
after_the_first = refl

after_the_last : first_link (after_first (is_at 1) (list_at two 0)) ≡ None
after_the_last = refl

pushed_to_the_second : with_last 1 (node 5 9) two ≡ (node 0 7 ∷ node 1 8 ∷ []) ∷ (node 5 9 ∷ []) ∷ []
pushed_to_the_second = refl

taken_from_the_front : without 0 two ≡ (node 1 8 ∷ []) ∷ [] ∷ []
taken_from_the_front = refl

put_before_the_last : with_before 1 (node 5 9) two ≡ (node 0 7 ∷ node 5 9 ∷ node 1 8 ∷ []) ∷ [] ∷ []
put_before_the_last = refl

changed_in_its_place : with_item 0 9 two ≡ (node 0 9 ∷ node 1 8 ∷ []) ∷ [] ∷ []
changed_in_its_place = refl

names_its_item : IsIn two 1 0 8
names_its_item = record { within = lit< tt; found = refl }

the_greatest_link : beside_of 2147483647 ≡ Neighbour 2147483647
the_greatest_link = refl

the_first_list : beside_of 2147483648 ≡ End 0
the_first_list = refl

a_list_and_back : beside_of (bits_of (End 3)) ≡ End 3
a_list_and_back = refl

-- under the keys 0 and 2 numbers are kept that are their own places, and nothing under any other
abbrev cells : ℕ → Option (Kept ℕ)
cells zero = Some (record { item = 8 })
cells (suc zero) = None
cells (suc (suc zero)) = Some (record { item = 5 })
cells (suc (suc (suc key))) = None

by_place_and_not_by_key : by_place (λ item. item) cells 9 ≡ node 2 5 ∷ node 0 8 ∷ []
by_place_and_not_by_key = refl

between_two_places : put_by_place (λ item. item) (node 1 6) (node 2 5 ∷ node 0 8 ∷ []) ≡ node 2 5 ∷ node 1 6 ∷ node 0 8 ∷ []
between_two_places = refl
