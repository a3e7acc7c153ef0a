-- The slots of a list of levels name the orders of their levels.
use Rattle.std.proofs.Common.{◌≡◌, ◌≢◌, ℕ, ◌+◌, ◌*◌, ◌^◌, ◌<◌, ◌≤◌, ◌⊎◌, inl, inr, List, [], ◌∷◌, ◌++◌, length, get_or, Option, Some, None, refl, sym, ap, ◌∙◌, arith, length-append, get_or-set_other}
use Rattle.std.proofs.Math.ListN.{set, get_or-append, length-set}
use Rattle.std.proofs.Math.Seq.{get_or-append_seam}
use Rattle.std.proofs.lemmas.Bool.{cases_eq}
use Rattle.std.proofs.lemmas.Grind.{get_or-set_at}
use Rattle.std.proofs.lemmas.List.Elements.{All-nil, All-push, All-set}
use Rattle.std.proofs.lemmas.List.Sums.{get_or-le-sum_by}
use Rattle.mkt_base.specs.Book.{total_left}
use Rattle.mkt_base.specs.declared.order.Side.{Side}
use Rattle.mkt_base.specs.declared.order.Side.TheVariants.{Buy, Sell}
use Rattle.mkt_base.specs.declared.order.Spot.{Spot}
use Rattle.mkt_base.specs.declared.order.Spot.TheVariants.{Market, At}
use Rattle.mkt_base.specs.declared.order.Order.{Order}
use Rattle.auction_law.proofs.LevelLemmas.{SameLevels-merge, SameLevels-nil, SameLevels-push}
use Rattle.auction_file.specs.LevelList.{HasRoom, IsSlotted, IsWithin, LevelList, OneALevel, StandsAt, StandsFor, level_of, side_number, spot_number}

-- the level of an order on the grid has a slot
pub level_of-within : (count : ℕ) (side : Side) (spot : Spot) → IsWithin count spot → level_of side spot < 2 * (count + 1)
level_of-within count Buy Market within = omega arith
level_of-within count Sell Market within = omega arith
level_of-within count Buy (At i) within = omega arith
level_of-within count Sell (At i) within = omega arith

-- a level is of one side and at one spot
side-known : (a b : Side) → side_number a ≡ side_number b → a ≡ b
side-known Buy Buy e = refl
side-known Buy Sell e = absurd (omega (arith, e))
side-known Sell Buy e = absurd (omega (arith, e))
side-known Sell Sell e = refl

spot-known : (a b : Spot) → spot_number a ≡ spot_number b → a ≡ b
spot-known Market Market e = refl
spot-known Market (At j) e = absurd (omega (arith, e))
spot-known (At i) Market e = absurd (omega (arith, e))
spot-known (At i) (At j) e = ap At (omega (arith, e))

side_number-small : (a : Side) → side_number a ≤ 1
side_number-small Buy = omega arith
side_number-small Sell = omega arith

pub level-side : (a b : Side) (p q : Spot) → level_of a p ≡ level_of b q → a ≡ b
level-side a b p q e = side-known a b (omega (arith, side_number-small a, side_number-small b))

pub level-spot : (a b : Side) (p q : Spot) → level_of a p ≡ level_of b q → p ≡ q
level-spot a b p q e = spot-known p q (omega (arith, side_number-small a, side_number-small b))

pub StandsFor-nil : StandsFor [] []
StandsFor-nil = record { levels = SameLevels-nil; left = All-nil (λ o. 0 < o.left); few = omega arith }

-- what an order of the list has left and an order that there is room for
pub left-fits : (levels : LevelList) (o x : Order) (i : ℕ) → HasRoom levels o → i < length levels.orders → get_or levels.orders i x ≡ x → x.left + o.left < 2 ^ 64
unfolding total_left
left-fits levels o x i room inside is =
    omega (arith, room.fits, get_or-le-sum_by (λ (y : Order). y.left) levels.orders i x inside, ap (λ (y : Order). y.left) is)

module _ (merged all : List Order) (stands : StandsFor merged all) (o : Order) (some : 0 < o.left) where
  -- an order of a new level
  pub StandsFor-push : StandsFor (merged ++ o ∷ []) (all ++ o ∷ [])
  StandsFor-push = record {
    levels = SameLevels-push merged all stands.levels o;
    left = All-push (λ o. 0 < o.left) merged o stands.left some;
    few = omega (arith, stands.few, length-append merged (o ∷ []), length-append all (o ∷ []));
  }

  -- an order of the level of one that is there
  pub StandsFor-merge : (i : ℕ) (x : Order) → i < length merged → get_or merged i x ≡ x → level_of x.side x.spot ≡ level_of o.side o.spot
      → StandsFor (set merged i (record x { left = x.left + o.left })) (all ++ o ∷ [])
  StandsFor-merge i x inside is level = record {
    levels = SameLevels-merge merged all stands.levels o i x inside is (level-side x.side o.side x.spot o.spot level) (level-spot x.side o.side x.spot o.spot level);
    left = All-set (λ o. 0 < o.left) merged i (record x { left = x.left + o.left }) (omega arith) stands.left;
    few = omega (arith, stands.few, length-set merged i (record x { left = x.left + o.left }), length-append all (o ∷ []));
  }

-- the slot of an order's level is there, and what it names is an order of the level
pub slot-inside : (count : ℕ) (orders : List Order) (slots : List (Option ℕ)) (o : Order) (level : ℕ) → IsSlotted count orders slots → IsWithin count o.spot
    → level ≡ level_of o.side o.spot → level < length slots
slot-inside count orders slots o level slotted within is = omega (arith, slotted.room, is, level_of-within count o.side o.spot within)

pub slot-names : (count : ℕ) (orders : List Order) (slots : List (Option ℕ)) (o : Order) (level i : ℕ) (slot : Option ℕ) → IsSlotted count orders slots → IsWithin count o.spot
    → level ≡ level_of o.side o.spot → slot ≡ get_or slots level slot → slot ≡ Some i → StandsAt orders i level
slot-names count orders slots o level i slot slotted within is read some =
    slotted.named level i slot (slot-inside count orders slots o level slotted within is) (sym read ∙ some)

-- a free slot for a new level names the order behind the others
module _ (count : ℕ) (orders : List Order) (slots : List (Option ℕ)) (o : Order) (level : ℕ) (slot : Option ℕ) (is : level ≡ level_of o.side o.spot) (within : level < length slots)
    (read : slot ≡ get_or slots level slot) (free : (i : ℕ) → slot ≡ Some i → ⊥) (slotted : IsSlotted count orders slots) where
  pushed-names : (l i : ℕ) (d : Option ℕ) → l < length slots → get_or (set slots level (Some (length orders))) l d ≡ Some i → (l ≡ level) ⊎ (l ≢ level) → StandsAt (orders ++ o ∷ []) i l
  pushed-names l i d inside e (inl same) =
      let put : Some (length orders) ≡ Some i = sym (get_or-set_at slots level l (Some (length orders)) d same within) ∙ e in
      let last : length orders ≡ i = cc in
      record {
        inside = omega (arith, last, length-append orders (o ∷ []));
        of_level = λ x. ap (λ (y : Order). level_of y.side y.spot) (ap (λ k. get_or (orders ++ o ∷ []) k x) (sym last) ∙ get_or-append_seam orders o [] x) ∙ sym is ∙ sym same;
      }
  pushed-names l i d inside e (inr other) =
      let stands = slotted.named l i d inside (sym (get_or-set_other slots level l (Some (length orders)) d other) ∙ e) in
      record {
        inside = omega (arith, stands.inside, length-append orders (o ∷ []));
        of_level = λ x. ap (λ (y : Order). level_of y.side y.spot) (get_or-append orders (o ∷ []) x i stands.inside) ∙ stands.of_level x;
      }

  pushed-listed : (i : ℕ) (x : Order) (d : Option ℕ) → (i < length orders) ⊎ (i ≡ length orders)
      → get_or (set slots level (Some (length orders))) (level_of (get_or (orders ++ o ∷ []) i x).side (get_or (orders ++ o ∷ []) i x).spot) d ≡ Some i
  pushed-listed i x d (inl old) =
      let old_level : ℕ = level_of (get_or orders i x).side (get_or orders i x).spot in
      let other : old_level ≢ level = λ same. free i (read ∙ ap (λ l. get_or slots l slot) (sym same) ∙ slotted.listed i x slot old) in
      ap (λ (y : Order). get_or (set slots level (Some (length orders))) (level_of y.side y.spot) d) (get_or-append orders (o ∷ []) x i old)
      ∙ get_or-set_other slots level old_level (Some (length orders)) d other ∙ slotted.listed i x d old
  pushed-listed i x d (inr last) =
      ap (λ k. get_or (set slots level (Some (length orders))) (level_of (get_or (orders ++ o ∷ []) k x).side (get_or (orders ++ o ∷ []) k x).spot) d) last
      ∙ ap (λ (y : Order). get_or (set slots level (Some (length orders))) (level_of y.side y.spot) d) (get_or-append_seam orders o [] x)
      ∙ get_or-set_at slots level (level_of o.side o.spot) (Some (length orders)) d (sym is) within ∙ ap Some (sym last)

  pub IsSlotted-push : IsSlotted count (orders ++ o ∷ []) (set slots level (Some (length orders)))
  IsSlotted-push = record {
    room = length-set slots level (Some (length orders)) ∙ slotted.room;
    named = λ l i d inside e. pushed-names l i d (omega (arith, inside, length-set slots level (Some (length orders)))) e (cases_eq l level);
    listed = λ i x d inside. pushed-listed i x d (lt-or-last i (length orders) (omega (arith, inside, length-append orders (o ∷ []))));
  }
    where
      lt-or-last : (i n : ℕ) → i < n + 1 → (i < n) ⊎ (i ≡ n)
      lt-or-last i n less = elim (cases_eq i n) [ inl same ↦ inr same | inr other ↦ inl (omega (arith, other)) ]

-- another quantity of an order leaves the slots as they are
module _ (count : ℕ) (orders : List Order) (slots : List (Option ℕ)) (at : ℕ) (x : Order) (left : ℕ) (inside : at < length orders) (is : x ≡ get_or orders at x)
    (slotted : IsSlotted count orders slots) where
  -- every order keeps its level
  level-kept : (i : ℕ) (z : Order) → (i ≡ at) ⊎ (i ≢ at)
      → (w : Order) × (level_of (get_or (set orders at (record x { left = left })) i z).side (get_or (set orders at (record x { left = left })) i z).spot ≡ level_of (get_or orders i w).side (get_or orders i w).spot)
  level-kept i z (inl same) = (
    x,
    ap (λ (o : Order). level_of o.side o.spot) (get_or-set_at orders at i (record x { left = left }) z same inside)
        ∙ ap (λ (o : Order). level_of o.side o.spot) (is ∙ ap (λ k. get_or orders k x) (sym same)),
  )
  level-kept i z (inr other) = (z, ap (λ (o : Order). level_of o.side o.spot) (get_or-set_other orders at i (record x { left = left }) z other))

  pub IsSlotted-set : IsSlotted count (set orders at (record x { left = left })) slots
  IsSlotted-set = record {
    room = slotted.room;
    named = λ level i d within e. let stands = slotted.named level i d within e in record {
      inside = omega (arith, stands.inside, length-set orders at (record x { left = left }));
      of_level = λ z. let kept = level-kept i z (cases_eq i at) in kept.1 ∙ stands.of_level kept.0;
    };
    listed = λ i z d within. let kept = level-kept i z (cases_eq i at) in
        ap (λ l. get_or slots l d) kept.1 ∙ slotted.listed i kept.0 d (omega (arith, within, length-set orders at (record x { left = left })));
  }

-- so no two orders are of one level
pub OneALevel-slotted : (count : ℕ) (orders : List Order) (slots : List (Option ℕ)) → IsSlotted count orders slots → OneALevel orders
OneALevel-slotted count orders slots slotted i j x less inside side spot =
    let level : level_of (get_or orders i x).side (get_or orders i x).spot ≡ level_of (get_or orders j x).side (get_or orders j x).spot = ap (λ s. level_of s (get_or orders i x).spot) side ∙ ap (level_of (get_or orders j x).side) spot in
    let same : Some i ≡ Some j = sym (slotted.listed i x None (omega (arith, less, inside))) ∙ ap (λ l. get_or slots l None) level ∙ slotted.listed j x None inside in
    let equal : i ≡ j = cc in
    omega (arith, less, equal)
