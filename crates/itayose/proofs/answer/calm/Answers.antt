use Rattle.std.proofs.Common.{not, sym, ap, ◌∙◌}
use Rattle.mkt_base.specs.declared.order.Side.TheVariants.{Buy, Sell}
use Rattle.book_law.specs.BookView.{orders}
use Rattle.itayose.proofs.BestLemmas.{IsBestAsk, IsBestBid, ask-found, bid-found, calm-answer, calm-where, market-found}
use Rattle.itayose.proofs.answer.calm.Goals as goal
use Rattle.itayose.proofs.answer.calm.Goals.{then-is_market-via-then-is_market, then-is_market-via-else-is_market+then-is_market-2}

pub returns-then-is_market : goal.returns-then-is_market
returns-then-is_market c = λ grid of. elim c.then-is_market.branch [
  | then-is_market-via-then-is_market w ↦ market-found c.args.book.now c.stands.ensures.book grid of Buy (sym c.best_spot-bid.ensures ∙ c.is_market.ensures.yes w.if-is_market.true)
  | then-is_market-via-else-is_market+then-is_market-2 w ↦ market-found c.args.book.now c.stands.ensures.book grid of Sell (sym c.best_spot-ask.ensures ∙ w.is_market-else-is_market.ensures.yes w.if-is_market-2.true)
]

pub returns-then-is_crossed : goal.returns-then-is_crossed
returns-then-is_crossed c = λ grid of.
    let bid = bid-found c.args.book.now c.stands.ensures.book grid of c.best_spot-bid.result (sym c.best_spot-bid.ensures) (c.is_market.ensures.not c.if-is_market.false) in
    let ask = ask-found c.args.book.now c.stands.ensures.book grid of c.best_spot-ask.result (sym c.best_spot-ask.ensures) (c.is_market-else-is_market.ensures.not c.if-is_market-2.false) in
    let bids : IsBestBid grid (orders c.args.book.now) c.position-bid.result = rw c.position-bid.ensures bid in
    let asks : IsBestAsk grid (orders c.args.book.now) c.position-ask.result = rw c.position-ask.ensures ask in
    calm-where grid (orders c.args.book.now) c.position-bid.result c.position-ask.result bids asks ∙ ap not (sym (c.is_crossed.ensures grid of.rising bids.inside asks.inside) ∙ c.if-is_crossed.true)

pub returns : goal.returns
returns c = λ grid of.
    let bid = bid-found c.args.book.now c.stands.ensures.book grid of c.best_spot-bid.result (sym c.best_spot-bid.ensures) (c.is_market.ensures.not c.if-is_market.false) in
    let ask = ask-found c.args.book.now c.stands.ensures.book grid of c.best_spot-ask.result (sym c.best_spot-ask.ensures) (c.is_market-else-is_market.ensures.not c.if-is_market-2.false) in
    let bids : IsBestBid grid (orders c.args.book.now) c.position-bid.result = rw c.position-bid.ensures bid in
    let asks : IsBestAsk grid (orders c.args.book.now) c.position-ask.result = rw c.position-ask.ensures ask in
    calm-answer grid (orders c.args.book.now) c.position-bid.result c.position-ask.result bids asks (sym (c.is_crossed.ensures grid of.rising bids.inside asks.inside) ∙ c.if-is_crossed.false)
