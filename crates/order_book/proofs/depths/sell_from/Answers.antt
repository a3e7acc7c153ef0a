use Rattle.std.proofs.Common.{◌≡◌, ◌+◌, ◌-◌, length, sum, take, ap, ◌∙◌, arith}
use Rattle.depth_index.specs.Depths.{IsFirstReaching, IsNowhereReached}
use Rattle.order_book.specs.Depths.{IsEmptyWithin, IsFirstFrom}
use Rattle.order_book.proofs.DepthLemmas.{first-from, match-weaker, none-from}
use Rattle.order_book.proofs.depths.sell_from.Goals as goal

pub returns : goal.returns
returns g c =
    let xs = c.args.sells.now in
    let from = c.args.from in
    let least = c.upto-least.result + 1 in
    let e : from - 1 + 1 ≡ from = omega arith in
    let is : least ≡ sum (take from xs) + 1 = ap (λ s. s + 1) (c.upto-least.ensures.exact ∙ ap (λ k. sum (take k xs)) e) in
    match-weaker c.find_first.result (IsNowhereReached xs least) (IsEmptyWithin xs from (length xs)) (IsFirstReaching xs least) (IsFirstFrom xs from)
    (none-from xs from least c.requires.within is) (λ i first. first-from xs from least i is first) c.find_first.ensures.exact
