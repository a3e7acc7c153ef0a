use Rattle.std.proofs.Common.{◌≡◌, ◌∷◌, ◌<◌, ◌+◌, ◌-◌, ◌++◌, take, drop, true, false, length, sym, ap, ◌∙◌, arith, ltb-true}
use Rattle.std.proofs.lemmas.List.{get_or_read}
use Rattle.mkt_base.specs.Book.{price_at}
use Rattle.auction_law.specs.Nearness.{is_nearer, by_nearness, prices_of}
use Rattle.auction_law.proofs.WalkLemmas.{walk_below, walk_above}
use Rattle.auction_law.proofs.nearness.ByNearness.next.Goals as goal
use Rattle.auction_law.proofs.nearness.ByNearness.next.Goals.{else-self-gt0-via-then-self-gt0+else-is_lower_nearer, then-self, else-self, else-self-gt0-via-else-self-gt0}

pub returns-then-is_lower_nearer : goal.returns-then-is_lower_nearer
returns-then-is_lower_nearer c =
    let grid = c.self.inside.grid.now in
    let r = c.self.inside.reference.0 in
    let below = c.self.inside.below in
    let above = c.self.inside.above in
    let nearer : above < length grid → is_nearer r (price_at grid (below - 1)) (price_at grid above) ≡ true =
    λ l. elim c.if-self.branch [
      | then-self w ↦ absurd (omega (arith, l))
      | else-self w ↦ sym w.is_lower_nearer.ensures ∙ sym w.value-is ∙ c.if-is_lower_nearer.true
    ] in
    sym c.self.view_is ∙ walk_below grid r (below - 1) below above c.self.invariant (omega arith) nearer

pub returns : goal.returns
returns c =
    let grid = c.self.inside.grid.now in
    let r = c.self.inside.reference.0 in
    let below = c.self.inside.below in
    let above = c.self.inside.above in
    let found = c.in_ok-price.ensures.lookup in
    let room : above < length grid = ltb-true _ _ (sym found.0) in
    let not_nearer : 0 < below → is_nearer r (price_at grid (below - 1)) (price_at grid above) ≡ false =
    λ some. elim c.else-self-gt0.branch [
      | else-self-gt0-via-then-self-gt0+else-is_lower_nearer w ↦ elim w.if-self.branch [
        | then-self v ↦ absurd (omega (arith, v.if-self.true, room))
        | else-self v ↦ sym v.is_lower_nearer.ensures ∙ sym v.value-is ∙ w.if-is_lower_nearer.false
      ]
      | else-self-gt0-via-else-self-gt0 w ↦ absurd (omega (arith, some, w.if-self-gt0.false))
    ] in
    sym c.self.view_is
    ∙ walk_above grid r below above c.self.invariant room not_nearer
    ∙ ap (λ p. p.0 ∷ by_nearness r (prices_of (take below grid ++ drop (above + 1) grid))) (sym (get_or_read grid _ _ room found.1 (record { 0 = 0 })))
