use Rattle.std.proofs.Common.{sym, ap, ◌∙◌, arith}
use Rattle.mkt_base.specs.Book.{price_at}
use Rattle.tick_grid.specs.Grid.{ceil_of}
use Rattle.tick_grid.specs.Range.{down_of}
use Rattle.tick_grid.proofs.StepLemmas.{range-start, down_of-start, down_of-found, down_of-next}
use Rattle.tick_grid.proofs.step.down.Goals as goal

pub returns-then-i-eq0-clause-exact : goal.returns-then-i-eq0-clause-exact
returns-then-i-eq0-clause-exact c =
    let prices = c.args.grid.now in
    let ranges = c.args.ranges.now in
    sym (ap (λ i. down_of prices ranges (price_at prices i)) c.if-i-eq0.true ∙ down_of-start prices ranges)

pub returns-in-Some-clause-exact : goal.returns-in-Some-clause-exact
returns-in-Some-clause-exact c =
    let prices = c.args.grid.now in
    let start = c.saturating_sub.ensures ∙ range-start prices c.args.ranges.now c.args.i c.price-p.result.0 c.band.result c.price-p.ensures.value c.band.ensures.exact in
    let found = sym (ap (ceil_of prices) start) ∙ sym c.ceil.ensures.exact ∙ c.in-Some.is in
    let exact =
    down_of-found prices c.args.ranges.now c.args.i c.in-Some.far c.stands.ensures.rising (omega (arith, c.if-i-eq0.false)) c.requires.position c.in-Some.ensures.within found in
    cc

pub returns-in-None-clause-exact : goal.returns-in-None-clause-exact
returns-in-None-clause-exact c =
    let prices = c.args.grid.now in
    let start = c.saturating_sub.ensures ∙ range-start prices c.args.ranges.now c.args.i c.price-p.result.0 c.band.result c.price-p.ensures.value c.band.ensures.exact in
    let found = sym (ap (ceil_of prices) start) ∙ sym c.ceil.ensures.exact ∙ c.in-None.is in
    down_of-next prices c.args.ranges.now c.args.i c.stands.ensures.rising (omega (arith, c.if-i-eq0.false)) c.requires.position found
