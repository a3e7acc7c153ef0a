use Rattle.std.proofs.Common.{◌+◌, ◌<◌, length, sym, ap, ◌∙◌, arith}
use Rattle.tick_grid.specs.Grid.{floor_of}
use Rattle.tick_grid.proofs.StepLemmas.{range-end, up_of-end, up_of-found, up_of-next}
use Rattle.tick_grid.proofs.step.up.Goals as goal

pub returns-then-next-size-clause-exact : goal.returns-then-next-size-clause-exact
returns-then-next-size-clause-exact c =
    sym (up_of-end c.args.grid.now c.args.ranges.now c.args.i (c.if-next-size.true ∙ c.size.ensures.value))

pub returns-in-Some-clause-exact : goal.returns-in-Some-clause-exact
returns-in-Some-clause-exact c =
    let prices = c.args.grid.now in
    let end = range-end prices c.args.ranges.now c.args.i c.price-p.result.0 c.band.result c.price-p.ensures.value c.band.ensures.exact in
    let found = sym (ap (floor_of prices) end) ∙ sym c.floor.ensures.exact ∙ c.in-Some.is in
    let inside : c.args.i + 1 < length prices = omega (arith, c.if-next-size.false, c.size.ensures.value, c.requires.position) in
    let exact = up_of-found prices c.args.ranges.now c.args.i c.in-Some.far c.stands.ensures.rising inside c.in-Some.ensures.within found in
    cc

pub returns-in-None-clause-exact : goal.returns-in-None-clause-exact
returns-in-None-clause-exact c =
    let prices = c.args.grid.now in
    let end = range-end prices c.args.ranges.now c.args.i c.price-p.result.0 c.band.result c.price-p.ensures.value c.band.ensures.exact in
    let found = sym (ap (floor_of prices) end) ∙ sym c.floor.ensures.exact ∙ c.in-None.is in
    let inside : c.args.i + 1 < length prices = omega (arith, c.if-next-size.false, c.size.ensures.value, c.requires.position) in
    up_of-next prices c.args.ranges.now c.args.i c.stands.ensures.rising inside found
