use Rattle.std.proofs.Common.{sym, ◌∙◌}
use Rattle.mkt_base.specs.Book.{price_at}
use Rattle.auction_law.specs.Attempt.{IsAuction}
use Rattle.auction_law.proofs.PressedLemmas.{pressed_buy-answer, pressed_sell-answer}
use Rattle.auction_law.proofs.attempt.without_trade.Goals as goal

pub returns-then-high : goal.returns-then-high
returns-then-high c = λ reference from to not_traded.
    let grid = c.args.grid.now in
    pressed_buy-answer grid c.args.orders.now (price_at grid reference) (price_at grid c.args.lo) (price_at grid c.args.hi) c.plain_sums-high.result c.plain_sums-high.ensures
    (sym c.is_calm.ensures ∙ c.if-is_calm.false) c.if-high.true not_traded

pub returns : goal.returns
returns c = λ reference from to not_traded.
    let grid = c.args.grid.now in
    let auction : IsAuction grid c.args.orders.now reference c.args.lo c.args.hi =
    record { rising = c.requires.rising; on_grid = c.requires.on_grid; left = c.requires.left; from_lo = from; to_hi = to; in_range = c.requires.in_range } in
    pressed_sell-answer grid c.args.orders.now reference c.args.lo c.args.hi c.plain_sums-high.result c.plain_sums-low.result c.plain_sums-high.ensures c.plain_sums-low.ensures
    (sym c.is_calm.ensures ∙ c.if-is_calm.false) c.if-high.false auction not_traded
