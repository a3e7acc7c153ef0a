-- The order at a place of a list whose places rise.
use Rattle.std.proofs.Common.{◌≡◌, ℕ, ◌<◌, true, false, ltb, List, [], ◌∷◌, length, get_or, sym, ap, subst, inl, inr, arith}
use Rattle.std.specs.List.{AllPairs, HoldsAt}
use Rattle.std.specs.List.Sorted.{IsNonDecreasingBy, IsPartitionPoint}
use Rattle.std.proofs.lemmas.Bool.{cases_lt}
use Rattle.std.proofs.lemmas.Bool.Decides.{nat_tests}
use Rattle.mkt_base.specs.declared.order.Order.{Order}

-- an order of a list that has one
an-order : (os : List Order) (k : ℕ) → k < length os → Order
an-order [] k h = absurd (omega (arith, h))
an-order (o ∷ os) k h = o

module _ (orders : List Order) (rising : AllPairs (λ a b. a.place < b.place) orders) where
  -- a later order has no earlier place
  pub places-rise : IsNonDecreasingBy (λ o. o.place) orders
  places-rise i j d le h =
      elim (cases_lt i j) [
        | inl less ↦ let strict = rising i j d less h in omega arith
        | inr more ↦ let same : i ≡ j = omega arith in let e : (get_or orders i d).place ≡ (get_or orders j d).place = ap (λ k. (get_or orders k d).place) same in omega arith
      ]

  -- where earlier places end there stands the order at the place, if there is one
  pub point-is : (place i : ℕ) → IsPartitionPoint (λ o. ltb o.place place ≡ true) (λ o. ltb o.place place ≡ false) orders i
      → (k : ℕ) × (k < length orders) × HoldsAt (λ o. o.place ≡ place) orders k → (i < length orders) × HoldsAt (λ o. o.place ≡ place) orders i
  point-is place i point (j, within, at) =
      let d = an-order orders j within in
      let e = at d in
      let same : i ≡ j =
      elim (cases_lt j i) [
        | inl less ↦ let before = point.0 j d (omega arith) less in absurd (grind (arith, nat_tests, e, before))
        | inr more ↦
            elim (cases_lt i j) [
              | inl less ↦
                  let strict = rising i j d less within in
                  let behind = point.1 i d (omega arith) (omega arith) in
                  absurd (grind (arith, nat_tests, e, strict, behind))
              | inr equal ↦ omega arith
            ]
      ] in
      (omega arith, λ z. subst (λ k. (get_or orders k z).place ≡ place) (sym same) (at z))
