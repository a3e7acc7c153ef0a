use Rattle.std.proofs.Common.{◌≢◌, sym, ◌∙◌}
use Rattle.std.proofs.lemmas.Bool.{eqb-false, eqb-true}
use Rattle.mkt_base.specs.Book.{price_at}
use Rattle.tick_grid.proofs.GridLemmas.{index_of-above, index_of-at, index_of-between}
use Rattle.tick_grid.proofs.grid.Grid.searched.Goals as goal

pub returns-in_default-clause-exact : goal.returns-in_default-clause-exact
returns-in_default-clause-exact c =
    sym (index_of-above c.args.self.now c.args.p.0 c.stands.ensures.rising (sym c.floor.ensures.exact ∙ c.in_default.is))

pub returns-then-eq-clause-exact : goal.returns-then-eq-clause-exact
returns-then-eq-clause-exact c =
    let same = eqb-true c.price.result.0 c.args.p.0 (sym c.eq.ensures ∙ c.if-eq.true) in
    sym (index_of-at c.args.self.now c.in-Some.i c.args.p.0 c.stands.ensures.rising (c.in-Some.ensures.within) (sym c.price.ensures.value ∙ same))

pub returns-else-eq-clause-exact : goal.returns-else-eq-clause-exact
returns-else-eq-clause-exact c =
    let other : price_at c.args.self.now c.in-Some.i ≢ c.args.p.0 =
    λ same. eqb-false c.price.result.0 c.args.p.0 (sym c.eq.ensures ∙ c.if-eq.false) (c.price.ensures.value ∙ same) in
    sym (index_of-between c.args.self.now c.args.p.0 c.in-Some.i c.stands.ensures.rising (sym c.floor.ensures.exact ∙ c.in-Some.is) other)
