use Rattle.std.proofs.Common.{◌≡◌, ◌-◌, ◌≤◌, None, sym, ap, ◌∙◌, arith}
use Rattle.mkt_base.specs.Book.{price_at}
use Rattle.tick_grid.specs.Grid.{ceil_of}
use Rattle.tick_grid.proofs.GridLemmas.{ceil_of-below}
use Rattle.sequential_quote.proofs.FarLemmas.{least-is, least-last}
use Rattle.sequential_quote.proofs.start.below.Goals as goal

pub unreachable-requires : goal.unreachable-requires
unreachable-requires c =
    let grid = c.args.grid.now in
    let none : ceil_of grid c.saturating_sub.result ≡ None = sym c.ceil.ensures.exact ∙ c.in_default.is in
    omega (arith, ceil_of-below grid c.saturating_sub.result none c.args.b c.requires.position, c.price.ensures.value, c.saturating_sub.ensures)

pub returns-clause-exact : goal.returns-clause-exact
returns-clause-exact c =
    let grid = c.args.grid.now in
    let end = c.saturating_sub.ensures ∙ ap (λ n. n - c.args.far) c.price.ensures.value in
    least-is grid (price_at grid c.args.b - c.args.far) c.in-Some.at (ap (ceil_of grid) (sym end) ∙ sym c.ceil.ensures.exact ∙ c.in-Some.is)

pub returns-clause-farthest : goal.returns-clause-farthest
returns-clause-farthest c = λ k inside near.
    let grid = c.args.grid.now in
    let upto : c.saturating_sub.result ≤ price_at grid k = omega (arith, near, c.saturating_sub.ensures, c.price.ensures.value) in
    least-last grid c.saturating_sub.result c.in-Some.at k c.stands.ensures.rising (sym c.ceil.ensures.exact ∙ c.in-Some.is) inside upto
