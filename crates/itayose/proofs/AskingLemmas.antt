-- The demands of orders that share, one order after another.
use Rattle.std.proofs.Common.{◌≡◌, ℕ, ◌+◌, ◌<◌, ◌≤◌, List, [], ◌∷◌, ◌++◌, filter, map, get_or, set, refl, sym, ap, subst, ◌∙◌, arith, append-nil, append_assoc}
use Rattle.std.specs.List.{AllByRecursion, range_with_len}
use Rattle.mkt_base.specs.declared.order.Order.{Order}
use Rattle.mkt_base.specs.declared.order.Side.{Side}
use Rattle.allotment.specs.declared.demand.Demand.{Demand}
use Rattle.book_law.specs.BookView.{BookView}
use Rattle.book_law.specs.Sides.{total}
use Rattle.book_law.proofs.Pairs.{all-append}
use Rattle.book_law.proofs.TakenLemmas.{total-cons}
use Rattle.itayose.specs.Fills.{demand_of, demands_by_number, is_by}
use Rattle.itayose.specs.Sharing.{AreLeft, with_order}
use Rattle.itayose.specs.declared.sharing.Sharers.{Sharers}
use Rattle.itayose.proofs.RoundsLemmas.{at-number, demand-other, demand-own, filter-le, set-by_number, total-append}

-- Of the orders that share some are left, and the table has the demands of the others.
pub record IsAsking (b : BookView) (side : Side) (at : ℕ) (all : List Order) (sharers : Sharers) (table : List Demand) : Type 0 where
  pub done : List Order
  pub rest : List Order
  pub split : all ≡ done ++ rest
  pub left : AreLeft b side at rest sharers
  pub demands : table ≡ map (demand_of done) (range_with_len 0 64)
  pub some : AllByRecursion (λ o. 0 < o.left) done
  pub participants : AllByRecursion (λ o. o.participant.0 < 64) rest

module _ (b : BookView) (side : Side) (at : ℕ) (all : List Order) where
  pub asking-none : (sharers : Sharers) (table : List Demand) → AreLeft b side at all sharers → table ≡ demands_by_number [] → AllByRecursion (λ o. o.participant.0 < 64) all
      → IsAsking b side at all sharers table
  unfolding demands_by_number
  asking-none sharers table left demands participants = record { done = []; rest = all; split = refl; left = left; demands = demands; some = tt; participants = participants }

  module _ (sharers next : Sharers) (table : List Demand) (s : IsAsking b side at all sharers table) (x : Order) (others : List Order) (split : s.rest ≡ x ∷ others) (left : AreLeft b side at others next) where
    pub asking-participant : x.participant.0 < 64
    asking-participant = let each : AllByRecursion (λ o. o.participant.0 < 64) (x ∷ others) = subst (AllByRecursion (λ o. o.participant.0 < 64)) split s.participants in each.0

    pub asking-some : 0 < x.left
    asking-some = let each : AllByRecursion (λ o. 0 < o.left) (x ∷ others) = subst (AllByRecursion (λ o. 0 < o.left)) split s.left.some in each.0

    -- what its participant asks for with it is no more than all have
    pub asking-fits : (d : Demand) → (get_or table x.participant.0 d).asked + x.left ≤ total all
    asking-fits d =
        let own : (get_or table x.participant.0 d).asked ≡ total (filter (is_by x.participant.0) s.done) = ap (λ e. e.asked) (at-number (demand_of s.done) 64 x.participant.0 table d s.demands asking-participant) in
        let sum : total all ≡ total s.done + total s.rest = ap total s.split ∙ total-append s.done s.rest in
        let rest : total s.rest ≡ x.left + total others = ap total split ∙ total-cons x others in
        omega (arith, own, sum, rest, filter-le (is_by x.participant.0) s.done)

    pub asking-more : (d : Demand) (v : Demand) → v ≡ with_order (get_or table x.participant.0 d) x → IsAsking b side at all next (set table x.participant.0 v)
    asking-more d v is = record {
      done = s.done ++ x ∷ [];
      rest = others;
      split = s.split ∙ ap (λ os. s.done ++ os) split ∙ sym (append_assoc s.done (x ∷ []) others);
      left = left;
      demands =
          set-by_number (demand_of s.done) (demand_of (s.done ++ x ∷ [])) 64 x.participant.0 table v s.demands asking-participant
          (is ∙ ap (λ e. with_order e x) (at-number (demand_of s.done) 64 x.participant.0 table d s.demands asking-participant) ∙ sym (demand-own s.done x s.some))
          (λ q apart. demand-other s.done x q apart);
      some = all-append (λ o. 0 < o.left) s.done (x ∷ []) s.some (asking-some, tt);
      participants = (let each : AllByRecursion (λ o. o.participant.0 < 64) (x ∷ others) = subst (AllByRecursion (λ o. o.participant.0 < 64)) split s.participants in each.1);
    }

  module _ (sharers : Sharers) (table : List Demand) (none : sharers.left ≡ 0) (s : IsAsking b side at all sharers table) where
    empty : (os : List Order) → AllByRecursion (λ o. 0 < o.left) os → total os ≡ 0 → os ≡ []
    empty [] some e = refl
    empty (o ∷ os) some e = absurd (omega (arith, total-cons o os, some.0, e))

    pub asking-done : table ≡ demands_by_number all
    unfolding demands_by_number
    asking-done =
        s.demands
        ∙ ap (λ os. map (demand_of os) (range_with_len 0 64)) (sym (s.split ∙ ap (λ os. s.done ++ os) (empty s.rest s.left.some (sym s.left.left ∙ none)) ∙ append-nil s.done))
