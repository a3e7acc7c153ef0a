use Rattle.std.proofs.Common.{◌≡◌, ◌-◌, ◌/◌, ◌++◌, ap, ◌∙◌, arith}
use Rattle.tick_grid.proofs.MultipleLemmas.{listed-one-more, multiples-listed, quotient-rises}
use Rattle.tick_grid.proofs.build.push_multiples.Goals as goal

pub loop-below-preserved : goal.loop-below-preserved
loop-below-preserved c =
    c.in_ok-push.ensures.items
    ∙ listed-one-more c.args.prices.now.items c.loop-below.prices.items c.args.tick ((c.args.from - 1) / c.args.tick) c.loop-below.below c.loop-below.auto.below c.loop-below.invariant

pub returns : goal.returns
returns c =
    let tick = c.args.tick in
    let from = c.args.from in
    let to = c.args.to in
    let ends : c.loop-below.below ≡ to / tick =
    omega (arith, quotient-rises tick (from - 1) to c.requires.tick (omega (arith, c.requires.order)), c.loop-below.auto.below-end, c.loop-below-test.false) in
    c.loop-below.invariant ∙ ap (λ xs. c.args.prices.now.items ++ xs) (multiples-listed tick from to c.loop-below.below c.requires.tick c.requires.from c.requires.order ends)
