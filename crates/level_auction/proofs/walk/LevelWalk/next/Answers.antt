use Rattle.std.proofs.Common.{◌≡◌, ℕ, ◌+◌, ◌-◌, ◌<◌, ◌∷◌, ◌++◌, true, false, List, length, take, drop, sym, subst, ◌∙◌, arith}
use Rattle.mkt_base.specs.Book.{price_at, sums_at}
use Rattle.mkt_base.specs.declared.auction.Sums.{Sums}
use Rattle.auction_law.specs.Nearness.{by_nearness, is_nearer, prices_of}
use Rattle.auction_law.proofs.WalkLemmas.{walk_above, walk_below}
use Rattle.itayose.specs.Walk.{Outward}
use Rattle.level_auction.proofs.walk.LevelWalk.next.Goals as goal
use Rattle.level_auction.proofs.walk.LevelWalk.next.Goals.{else-self-gt0-via-then-self-gt0+else-is_lower_nearer, then-self-size, else-self-size, else-self-gt0-via-else-self-gt0}

-- the position with its sums is the next of what is left
IsNext : ℕ → Sums → List ℕ → Outward → Type 0
IsNext i s rest v = (i < length v.grid) × (s ≡ sums_at v.grid v.orders (price_at v.grid i)) × (v.left ≡ price_at v.grid i ∷ rest)

pub returns-then-is_lower_nearer-clause-next : goal.returns-then-is_lower_nearer-clause-next
unfolding IsNext
returns-then-is_lower_nearer-clause-next c =
    let grid = c.self.inside.grid.now in
    let r = c.self.inside.reference.0 in
    let below = c.self.inside.below in
    let above = c.self.inside.above in
    let nearer : above < length grid → is_nearer r (price_at grid (below - 1)) (price_at grid above) ≡ true =
    λ l. elim c.if-self-size.branch [
      | then-self-size w ↦ absurd (omega (arith, l, w.if-self-size.true))
      | else-self-size w ↦ sym w.is_lower_nearer.ensures ∙ sym w.value-is ∙ c.if-is_lower_nearer.true
    ] in
    subst (IsNext (below - 1) c.sums_below-self-inside.result (by_nearness r (prices_of (take (below - 1) grid ++ drop above grid)))) c.self.view_is
    (omega (arith, c.self.invariant.inside), c.sums_below-self-inside.ensures, walk_below grid r (below - 1) below above c.self.invariant.walk (omega arith) nearer)

pub returns-clause-next : goal.returns-clause-next
unfolding IsNext
returns-clause-next c =
    let grid = c.self.inside.grid.now in
    let r = c.self.inside.reference.0 in
    let below = c.self.inside.below in
    let above = c.self.inside.above in
    let room : above < length grid = omega (arith, c.if-self-size-2.false) in
    let not_nearer : 0 < below → is_nearer r (price_at grid (below - 1)) (price_at grid above) ≡ false =
    λ some. elim c.else-self-gt0.branch [
      | else-self-gt0-via-then-self-gt0+else-is_lower_nearer w ↦ elim w.if-self-size.branch [
        | then-self-size v ↦ absurd (omega (arith, v.if-self-size.true, room))
        | else-self-size v ↦ sym v.is_lower_nearer.ensures ∙ sym v.value-is ∙ w.if-is_lower_nearer.false
      ]
      | else-self-gt0-via-else-self-gt0 w ↦ absurd (omega (arith, some, w.if-self-gt0.false))
    ] in
    subst (IsNext above c.sums_above-self-inside.result (by_nearness r (prices_of (take below grid ++ drop (above + 1) grid)))) c.self.view_is
    (room, c.sums_above-self-inside.ensures, walk_above grid r below above c.self.invariant.walk room not_nearer)
