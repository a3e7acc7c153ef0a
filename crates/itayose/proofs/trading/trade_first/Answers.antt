use Rattle.std.proofs.Common.{min, ap, ◌∙◌}
use Rattle.mkt_base.specs.declared.order.Side.TheVariants.{Buy, Sell}
use Rattle.itayose.proofs.TradingLemmas.{first-left, handles-apart, least-some, traded-first}
use Rattle.itayose.proofs.trading.trade_first.Goals as goal

pub take-requires-clause-some : goal.take-requires-clause-some
take-requires-clause-some g c =
    least-some c.first_of-buy.result.1.left c.first_of-sell.result.1.left c.args.most c.min.result c.min-qty.result c.min.ensures c.min-qty.ensures
    (first-left c.args.book.now c.stands.ensures.book Buy _ c.first_of-buy.ensures.first) (first-left c.args.book.now c.stands.ensures.book Sell _ c.first_of-sell.ensures.first) c.requires.some

pub take-requires-2-clause-names : goal.take-requires-2-clause-names
take-requires-2-clause-names g c =
    c.take.ensures.others c.first_of-sell.result.0 c.first_of-sell.result.1
    (handles-apart c.args.book.now c.first_of-buy.result.0 c.first_of-sell.result.0 c.first_of-buy.result.1 c.first_of-sell.result.1 c.stands.ensures.book c.first_of-buy.ensures.names c.first_of-sell.ensures.names c.first_of-buy.ensures.first c.first_of-sell.ensures.first)
    c.first_of-sell.ensures.names

pub take-requires-2-clause-some : goal.take-requires-2-clause-some
take-requires-2-clause-some g c =
    least-some c.first_of-buy.result.1.left c.first_of-sell.result.1.left c.args.most c.min.result c.min-qty.result c.min.ensures c.min-qty.ensures
    (first-left c.args.book.now c.stands.ensures.book Buy _ c.first_of-buy.ensures.first) (first-left c.args.book.now c.stands.ensures.book Sell _ c.first_of-sell.ensures.first) c.requires.some

pub returns-clause-trade : goal.returns-clause-trade
returns-clause-trade g c =
    let some = least-some c.first_of-buy.result.1.left c.first_of-sell.result.1.left c.args.most c.min.result c.min-qty.result c.min.ensures c.min-qty.ensures
    (first-left c.args.book.now c.stands.ensures.book Buy _ c.first_of-buy.ensures.first) (first-left c.args.book.now c.stands.ensures.book Sell _ c.first_of-sell.ensures.first) c.requires.some in
    traded-first c.args.price.0 c.args.most c.min-qty.result c.first_of-buy.result.1 c.first_of-sell.result.1 c.args.book.now c.take.new.book c.take-2.new.book c.stands.ensures.book
    c.first_of-buy.ensures.first c.first_of-sell.ensures.first (c.min-qty.ensures ∙ ap (λ n. min n c.args.most) c.min.ensures) some
    c.take.ensures.orders c.take-2.ensures.orders c.take.ensures.prices c.take-2.ensures.prices c.take.ensures.capacity c.take-2.ensures.capacity
