-- Orders that share fill in turn with what their participants have.
use Rattle.std.proofs.Common.{◌≡◌, ℕ, ◌+◌, ◌-◌, ◌<◌, ◌≤◌, min, Bool, true, List, [], ◌∷◌, length, get_or, set, All, refl, sym, ap, subst, ◌∙◌, arith}
use Rattle.std.specs.List.{AllByRecursion}
use Rattle.std.proofs.lemmas.List.Elements.{recursion_from_All}
use Rattle.mkt_base.specs.Fills.{quantity}
use Rattle.mkt_base.specs.declared.order.Order.{Order}
use Rattle.mkt_base.specs.declared.order.Side.{Side}
use Rattle.mkt_base.specs.declared.output.Output.{Output}
use Rattle.book_law.specs.BookView.{BookView, IsBookView, orders, side_of, taken}
use Rattle.book_law.specs.Sides.{total}
use Rattle.book_law.proofs.TakenLemmas.{total-cons}
use Rattle.itayose.specs.Fills.{opposite}
use Rattle.itayose.specs.Sharing.{AreFilled, AreLeft, KeepsOthers, fill_of, is_sharing, own_shares, sharing_of}
use Rattle.itayose.specs.declared.sharing.Sharers.{Sharers}
use Rattle.itayose.proofs.FillingLemmas.{filled-behind, filled-more, filled-none, quantity-cons, quantity-none, side-is}
use Rattle.itayose.proofs.SharingLemmas.{filter-keeps, later, left-kept, sharing-side}

-- Orders that share are left to be filled, with what their participants have left of their shares.
pub record IsGiving {W : Type 0} (took : W → List Output → W → Type 0) (p : ℕ) (side : Side) (at : ℕ) (markets : Bool) (given shares : List ℕ) (sharers : Sharers) (old new : BookView) (from to : W) : Type 0 where
  pub rest : List Order
  pub left : AreLeft new side at rest sharers
  pub filled : AreFilled took p side (own_shares given (sharing_of old side at markets)) (own_shares shares rest) old new from to
  pub faced : quantity (own_shares shares rest) ≤ total (side_of new (opposite side))
  pub participants : AllByRecursion (λ o. o.participant.0 < 64) rest
  pub size : length shares ≡ 64

module _ {W : Type 0} (took : W → List Output → W → Type 0) (p : ℕ) (side : Side) (at : ℕ) (markets : Bool) (given : List ℕ) (old : BookView) (from : W) where
  pub giving-none : (sharers : Sharers) → IsBookView old → AreLeft old side at (sharing_of old side at markets) sharers → All (λ o. o.participant.0 < 64) (orders old)
      → quantity (own_shares given (sharing_of old side at markets)) ≤ total (side_of old (opposite side)) → length given ≡ 64
      → IsGiving took p side at markets given given sharers old old from from
  giving-none sharers stands left participants faced size = record {
    rest = sharing_of old side at markets;
    left = left;
    filled = filled-none took p side (own_shares given (sharing_of old side at markets)) old from stands;
    faced = faced;
    participants = filter-keeps (λ o. o.participant.0 < 64) (is_sharing side at markets) (orders old) (recursion_from_All (λ o. o.participant.0 < 64) (orders old) participants);
    size = size;
  }

  module _ (shares : List ℕ) (sharers next : Sharers) (mid : BookView) (middle : W) (s : IsGiving took p side at markets given shares sharers old mid from middle) (some : 0 < sharers.left) (x : Order) (others : List Order)
      (split : s.rest ≡ x ∷ others) (left : AreLeft mid side at others next) where
    -- the next one has a participant
    pub giving-participant : x.participant.0 < 64
    giving-participant = let all : AllByRecursion (λ o. o.participant.0 < 64) (x ∷ others) = subst (AllByRecursion (λ o. o.participant.0 < 64)) split s.participants in all.0

    pub giving-side : x.side ≡ side
    giving-side =
        let all : AllByRecursion (λ o. is_sharing side at true o ≡ true) (x ∷ others) = subst (AllByRecursion (λ o. is_sharing side at true o ≡ true)) split s.left.each in
        side-is side x.side (sharing-side side at x all.0)

    pub giving-some : 0 < x.left
    giving-some = let all : AllByRecursion (λ o. 0 < o.left) (x ∷ others) = subst (AllByRecursion (λ o. 0 < o.left)) split s.left.some in all.0

    module _ (qty : ℕ) (fills : qty ≡ min x.left (get_or shares x.participant.0 0)) where
      abbrev after : List ℕ
      after = set shares x.participant.0 (get_or shares x.participant.0 0 - qty)

      first-fill : own_shares shares (x ∷ others) ≡ fill_of x.place qty ∷ own_shares after others
      unfolding own_shares
      first-fill =
          ap (λ n. fill_of x.place n ∷ own_shares (set shares x.participant.0 (get_or shares x.participant.0 0 - n)) others) (sym fills)

      all-fills : quantity (own_shares shares s.rest) ≡ qty + quantity (own_shares after others)
      all-fills = ap (λ os. quantity (own_shares shares os)) split ∙ ap quantity first-fill ∙ quantity-cons (fill_of x.place qty) (own_shares after others)

      pub giving-faced : qty ≤ total (side_of mid (opposite x.side))
      giving-faced =
          let same : total (side_of mid (opposite x.side)) ≡ total (side_of mid (opposite side)) = ap (λ t. total (side_of mid (opposite t))) giving-side in
          omega (arith, same, s.faced, all-fills)

      pub giving-more : (new : BookView) (to : W) (shared : List ℕ) → shared ≡ after → length shared ≡ 64 → AreFilled took p x.side (fill_of x.place qty ∷ []) [] mid new middle to
          → side_of new x.side ≡ taken x.place qty (side_of mid x.side) → KeepsOthers x mid new → IsGiving took p side at markets given shared next old new from to
      giving-more new to shared is size filled own keeps = record {
        rest = others;
        left =
            left-kept mid new side at qty x filled.prices (ap (side_of new) (sym giving-side) ∙ own ∙ ap (λ t. taken x.place qty (side_of mid t)) giving-side) giving-side keeps others next
            (later mid side at s.rest sharers s.left some x others split) left;
        filled =
            let one = filled-behind took p side (fill_of x.place qty ∷ []) [] (own_shares after others) mid new middle to (subst (λ t. AreFilled took p t (fill_of x.place qty ∷ []) [] mid new middle to) giving-side filled) in
            filled-more took p side (own_shares given (sharing_of old side at markets)) (own_shares shares s.rest) (own_shares shared others) old mid new from middle to s.filled
            (subst (λ fs. AreFilled took p side fs (own_shares shared others) mid new middle to) (sym (ap (own_shares shares) split ∙ first-fill))
            (subst (λ zs. AreFilled took p side (fill_of x.place qty ∷ own_shares after others) (own_shares zs others) mid new middle to) (sym is) one));
        faced =
            let same : total (side_of new (opposite x.side)) ≡ total (side_of new (opposite side)) = ap (λ t. total (side_of new (opposite t))) giving-side in
            let was : total (side_of mid (opposite x.side)) ≡ total (side_of mid (opposite side)) = ap (λ t. total (side_of mid (opposite t))) giving-side in
            let one : quantity (fill_of x.place qty ∷ []) ≡ qty + quantity [] = quantity-cons (fill_of x.place qty) [] in
            let now : quantity (own_shares shared others) ≡ quantity (own_shares after others) = ap (λ zs. quantity (own_shares zs others)) is in
            omega (arith, same, was, one, now, quantity-none, filled.faced, s.faced, all-fills);
        participants = (let all : AllByRecursion (λ o. o.participant.0 < 64) (x ∷ others) = subst (AllByRecursion (λ o. o.participant.0 < 64)) split s.participants in all.1);
        size = size;
      }

  module _ (shares : List ℕ) (sharers : Sharers) (new : BookView) (to : W) (none : sharers.left ≡ 0) (s : IsGiving took p side at markets given shares sharers old new from to) where
    empty : (os : List Order) → AllByRecursion (λ o. 0 < o.left) os → total os ≡ 0 → os ≡ []
    empty [] some e = refl
    empty (o ∷ os) some e = absurd (omega (arith, total-cons o os, some.0, e))

    no-fills : own_shares shares [] ≡ []
    unfolding own_shares
    no-fills = refl

    pub giving-done : AreFilled took p side (own_shares given (sharing_of old side at markets)) [] old new from to
    giving-done =
        subst (λ fs. AreFilled took p side (own_shares given (sharing_of old side at markets)) fs old new from to)
        (ap (own_shares shares) (empty s.rest s.left.some (sym s.left.left ∙ none)) ∙ no-fills) s.filled
