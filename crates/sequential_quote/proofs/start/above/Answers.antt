use Rattle.std.proofs.Common.{◌≡◌, ◌+◌, ◌≤◌, None, sym, ap, ◌∙◌, arith}
use Rattle.mkt_base.specs.Book.{price_at}
use Rattle.tick_grid.specs.Grid.{floor_of}
use Rattle.tick_grid.proofs.GridLemmas.{floor_of-above}
use Rattle.sequential_quote.proofs.FarLemmas.{greatest-is, greatest-last}
use Rattle.sequential_quote.proofs.start.above.Goals as goal

pub unreachable-requires : goal.unreachable-requires
unreachable-requires c =
    let grid = c.args.grid.now in
    let none : floor_of grid (c.price.result.0 + c.args.far) ≡ None = sym c.floor.ensures.exact ∙ c.in_default.is in
    omega (arith, floor_of-above grid (c.price.result.0 + c.args.far) c.stands.ensures.rising none c.args.b c.requires.position, c.price.ensures.value)

pub returns-clause-exact : goal.returns-clause-exact
returns-clause-exact c =
    let grid = c.args.grid.now in
    let end = ap (λ n. n + c.args.far) c.price.ensures.value in
    greatest-is grid (price_at grid c.args.b + c.args.far) c.in-Some.at (ap (floor_of grid) (sym end) ∙ sym c.floor.ensures.exact ∙ c.in-Some.is)

pub returns-clause-farthest : goal.returns-clause-farthest
returns-clause-farthest c = λ k inside near.
    let grid = c.args.grid.now in
    let end = c.price.result.0 + c.args.far in
    let upto : price_at grid k ≤ end = omega (arith, near, c.price.ensures.value) in
    greatest-last grid end c.in-Some.at k c.stands.ensures.rising (sym c.floor.ensures.exact ∙ c.in-Some.is) inside upto
