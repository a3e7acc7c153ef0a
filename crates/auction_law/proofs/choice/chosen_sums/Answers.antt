use Rattle.std.proofs.Common.{◌≡◌, ◌-◌, true, false, sym, ◌∙◌, arith}
use Rattle.mkt_base.specs.Book.{price_at}
use Rattle.auction_law.specs.Attempt.{meets}
use Rattle.auction_law.proofs.ChoiceLemmas.{meets-of_sums, best-none, best-fails, best-meets, best-chosen}
use Rattle.auction_law.proofs.choice.chosen_sums.Goals as goal

pub loop-i-init : goal.loop-i-init
loop-i-init c = best-none _ _ _

pub loop-i-preserved-then-meets : goal.loop-i-preserved-then-meets
loop-i-preserved-then-meets c =
    let grid = c.args.grid.now in
    let orders = c.args.orders.now in
    let k = c.loop-i.i - 1 in
    let m : meets grid orders (price_at grid k) ≡ true = sym (c.meets.ensures ∙ meets-of_sums grid orders (price_at grid k) c.plain_sums-sums.result c.plain_sums-sums.ensures) ∙ c.if-meets.true in
    best-meets grid orders c.args.reference.0 k c.loop-i.i c.loop-i.best c.plain_sums-sums.result c.nearest.result (omega arith) m c.plain_sums-sums.ensures c.nearest.ensures c.loop-i.invariant

pub loop-i-preserved : goal.loop-i-preserved
loop-i-preserved c =
    let grid = c.args.grid.now in
    let orders = c.args.orders.now in
    let k = c.loop-i.i - 1 in
    let m : meets grid orders (price_at grid k) ≡ false = sym (c.meets.ensures ∙ meets-of_sums grid orders (price_at grid k) c.plain_sums-sums.result c.plain_sums-sums.ensures) ∙ c.if-meets.false in
    best-fails grid orders c.args.reference.0 k c.loop-i.i c.loop-i.best (omega arith) m c.loop-i.invariant

pub returns : goal.returns
returns c = best-chosen c.args.grid.now c.args.orders.now c.args.reference.0 c.loop-i.i c.loop-i.best (omega arith) c.loop-i.invariant
