use Rattle.std.proofs.Common.{◌≡◌, ◌<◌, ◌≤◌, List, length, sym, ◌∙◌, ap, subst, arith}
use Rattle.std.specs.List.{All}
use Rattle.mkt_base.specs.Book.{is_buy_above, is_buy_at, is_sell_at, is_sell_below, price_at, total_left}
use Rattle.mkt_base.specs.declared.order.Order.{Order}
use Rattle.book_law.specs.BookView.{IsSpotBelow, orders}
use Rattle.order_book.specs.Plain.{is_part}
use Rattle.order_book.specs.declared.total.Part.{Part}
use Rattle.order_book.specs.declared.total.Part.TheVariants.{BuysFrom, BuysAbove, SellsTo, SellsBelow}
use Rattle.order_book.proofs.CallLemmas.{same-orders}
use Rattle.order_book.proofs.PlainLemmas.{on-grid, within-limit}
use Rattle.order_book.proofs.SumLemmas.{buys-above, buys-from, sells-below, sells-to, sums-same}
use Rattle.order_book.proofs.plain.PlainBook.sums_at.Goals as goal

pub levels-requires-clause-limit : goal.levels-requires-clause-limit
levels-requires-clause-limit c =
    let fields = c.self.inside in
    subst (λ (os : List Order). All (λ o. o.left ≤ 100000000) os) (sym c.deref.ensures.value) (within-limit fields.prices fields.capacity fields.orders.items c.self.invariant.book)

pub returns : goal.returns
returns c grid is =
    let fields = c.self.inside in
    let i = c.args.i in
    let os = fields.orders.items in
    let now = c.args.self.now in
    let same = same-orders fields.prices fields.capacity os now c.self.view_is in
    let size : length grid ≡ fields.prices = is.size ∙ sym (ap (λ b. b.prices) c.self.view_is) in
    let within : i < length grid = let h = c.requires in let e = is.size in omega (arith, h, e) in
    let below : All (λ o. IsSpotBelow (length grid) o.spot) os =
    subst (λ n. All (λ o. IsSpotBelow n o.spot) os) (sym size) (on-grid fields.prices fields.capacity os c.self.invariant.book) in
    let part : (p : Part) → total_left (is_part p) c.deref.result.now ≡ total_left (is_part p) os = λ p. ap (total_left (is_part p)) c.deref.ensures.value in
    sums-same (price_at grid i) c.levels.result
    (record {
      buys = total_left (is_buy_at grid (price_at grid i)) (orders now);
      above = total_left (is_buy_above grid (price_at grid i)) (orders now);
      sells = total_left (is_sell_at grid (price_at grid i)) (orders now);
      below = total_left (is_sell_below grid (price_at grid i)) (orders now);
    })
    (c.levels.ensures.buys ∙ part (BuysFrom i) ∙ buys-from grid is.rising i within os below ∙ ap (total_left (is_buy_at grid (price_at grid i))) same)
    (c.levels.ensures.above ∙ part (BuysAbove i) ∙ buys-above grid is.rising i within os below ∙ ap (total_left (is_buy_above grid (price_at grid i))) same)
    (c.levels.ensures.sells ∙ part (SellsTo i) ∙ sells-to grid is.rising i within os below ∙ ap (total_left (is_sell_at grid (price_at grid i))) same)
    (c.levels.ensures.below ∙ part (SellsBelow i) ∙ sells-below grid is.rising i within os below ∙ ap (total_left (is_sell_below grid (price_at grid i))) same)
