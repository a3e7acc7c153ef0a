use Rattle.std.proofs.Common.{◌≡◌, min, ◌++◌, sym, ap, subst, ◌∙◌, arith}
use Rattle.mkt_base.specs.Book.{buys, price_at, sells}
use Rattle.mkt_base.specs.Fills.{after_trades}
use Rattle.mkt_base.specs.declared.auction.Sums.{Sums}
use Rattle.book_law.specs.BookView.{orders}
use Rattle.itayose.specs.Fills.{auction_fills, settlement_outputs, trade_outputs}
use Rattle.itayose.proofs.SettleLemmas.{not-longer, rounds-even, time-is}
use Rattle.itayose.proofs.TradingLemmas.{book-fills, within-book}
use Rattle.itayose.proofs.settling.settle.Goals as goal

pub trade_volume-requires-clause-bought : goal.trade_volume-requires-clause-bought
trade_volume-requires-clause-bought g c = (within-book c.args.book.now c.stands.ensures.book c.args.grid.now (record { rising = c.stands-2.ensures.rising; size = c.requires.size }) c.args.at c.sums_there-sums.result c.min.result c.sums_there-sums.ensures c.min.ensures c.requires.meets).0

pub trade_volume-requires-clause-sold : goal.trade_volume-requires-clause-sold
trade_volume-requires-clause-sold g c = (within-book c.args.book.now c.stands.ensures.book c.args.grid.now (record { rising = c.stands-2.ensures.rising; size = c.requires.size }) c.args.at c.sums_there-sums.result c.min.result c.sums_there-sums.ensures c.min.ensures c.requires.meets).1

pub returns-in_default-clause-book : goal.returns-in_default-clause-book
returns-in_default-clause-book g c =
    c.trade_volume.ensures.book ∙ ap (λ ts. after_trades ts (orders c.args.book.now)) (book-fills c.args.book.now c.stands.ensures.book c.args.grid.now (record { rising = c.stands-2.ensures.rising; size = c.requires.size }) c.args.at c.sums_there-sums.result c.min.result c.sums_there-sums.ensures c.min.ensures c.requires.meets c.args.rounds.now c.args.unit)
    ∙ ap (λ m. after_trades (auction_fills c.args.grid.now (orders c.args.book.now) (price_at c.args.grid.now c.args.at) m c.args.rounds.now c.args.unit).trades (orders c.args.book.now)) (sym (time-is c.args.margin c.in_default.not-Rounds))

pub returns-in_default-clause-told : goal.returns-in_default-clause-told
returns-in_default-clause-told g c = λ from outputs h.
    subst (λ m. g.W.Watch.took from (outputs ++ settlement_outputs (auction_fills c.args.grid.now (orders c.args.book.now) (price_at c.args.grid.now c.args.at) m c.args.rounds.now c.args.unit)) c.trade_volume.new.watch) (sym (time-is c.args.margin c.in_default.not-Rounds))
    (subst (λ ts. g.W.Watch.took from (outputs ++ trade_outputs ts) c.trade_volume.new.watch) (book-fills c.args.book.now c.stands.ensures.book c.args.grid.now (record { rising = c.stands-2.ensures.rising; size = c.requires.size }) c.args.at c.sums_there-sums.result c.min.result c.sums_there-sums.ensures c.min.ensures c.requires.meets c.args.rounds.now c.args.unit) (c.trade_volume.ensures.told from outputs h))

pub trade_volume-requires-else-sums-2-clause-bought : goal.trade_volume-requires-else-sums-2-clause-bought
trade_volume-requires-else-sums-2-clause-bought g c = (within-book c.args.book.now c.stands.ensures.book c.args.grid.now (record { rising = c.stands-2.ensures.rising; size = c.requires.size }) c.args.at c.sums_there-sums.result c.sums_there-sums.result.buys c.sums_there-sums.ensures (let h = c.if-sums.false in let k = c.if-sums-2.false in let e : c.sums_there-sums.result.buys ≡ min c.sums_there-sums.result.buys c.sums_there-sums.result.sells = omega arith in e) c.requires.meets).0

pub trade_volume-requires-else-sums-2-clause-sold : goal.trade_volume-requires-else-sums-2-clause-sold
trade_volume-requires-else-sums-2-clause-sold g c = (within-book c.args.book.now c.stands.ensures.book c.args.grid.now (record { rising = c.stands-2.ensures.rising; size = c.requires.size }) c.args.at c.sums_there-sums.result c.sums_there-sums.result.buys c.sums_there-sums.ensures (let h = c.if-sums.false in let k = c.if-sums-2.false in let e : c.sums_there-sums.result.buys ≡ min c.sums_there-sums.result.buys c.sums_there-sums.result.sells = omega arith in e) c.requires.meets).1

pub returns-else-sums-2-clause-book : goal.returns-else-sums-2-clause-book
returns-else-sums-2-clause-book g c =
    c.trade_volume-else-sums-2.ensures.book ∙ ap (λ ts. after_trades ts (orders c.args.book.now)) (book-fills c.args.book.now c.stands.ensures.book c.args.grid.now (record { rising = c.stands-2.ensures.rising; size = c.requires.size }) c.args.at c.sums_there-sums.result c.sums_there-sums.result.buys c.sums_there-sums.ensures (let h = c.if-sums.false in let k = c.if-sums-2.false in let e : c.sums_there-sums.result.buys ≡ min c.sums_there-sums.result.buys c.sums_there-sums.result.sells = omega arith in e) c.requires.meets c.args.rounds.now c.args.unit)
    ∙ ap (λ s. after_trades s.trades (orders c.args.book.now)) (let w = (not-longer c.args.grid.now (orders c.args.book.now) (price_at c.args.grid.now c.args.at) (let h = c.if-sums.false in let b : c.sums_there-sums.result.buys ≡ buys c.args.grid.now (orders c.args.book.now) (price_at c.args.grid.now c.args.at) = ap (λ (s : Sums). s.buys) c.sums_there-sums.ensures in let s : c.sums_there-sums.result.sells ≡ sells c.args.grid.now (orders c.args.book.now) (price_at c.args.grid.now c.args.at) = ap (λ (s : Sums). s.sells) c.sums_there-sums.ensures in omega arith) (let k = c.if-sums-2.false in let b : c.sums_there-sums.result.buys ≡ buys c.args.grid.now (orders c.args.book.now) (price_at c.args.grid.now c.args.at) = ap (λ (s : Sums). s.buys) c.sums_there-sums.ensures in let s : c.sums_there-sums.result.sells ≡ sells c.args.grid.now (orders c.args.book.now) (price_at c.args.grid.now c.args.at) = ap (λ (s : Sums). s.sells) c.sums_there-sums.ensures in omega arith)) in rounds-even c.args.grid.now (orders c.args.book.now) (price_at c.args.grid.now c.args.at) c.args.rounds.now c.args.unit w.0 w.1)
    ∙ ap (λ m. after_trades (auction_fills c.args.grid.now (orders c.args.book.now) (price_at c.args.grid.now c.args.at) m c.args.rounds.now c.args.unit).trades (orders c.args.book.now)) (sym c.in-Rounds.is)

pub returns-else-sums-2-clause-told : goal.returns-else-sums-2-clause-told
returns-else-sums-2-clause-told g c = λ from outputs h.
    subst (λ m. g.W.Watch.took from (outputs ++ settlement_outputs (auction_fills c.args.grid.now (orders c.args.book.now) (price_at c.args.grid.now c.args.at) m c.args.rounds.now c.args.unit)) c.trade_volume-else-sums-2.new.watch) (sym c.in-Rounds.is)
    (subst (λ s. g.W.Watch.took from (outputs ++ settlement_outputs s) c.trade_volume-else-sums-2.new.watch) (let w = (not-longer c.args.grid.now (orders c.args.book.now) (price_at c.args.grid.now c.args.at) (let h = c.if-sums.false in let b : c.sums_there-sums.result.buys ≡ buys c.args.grid.now (orders c.args.book.now) (price_at c.args.grid.now c.args.at) = ap (λ (s : Sums). s.buys) c.sums_there-sums.ensures in let s : c.sums_there-sums.result.sells ≡ sells c.args.grid.now (orders c.args.book.now) (price_at c.args.grid.now c.args.at) = ap (λ (s : Sums). s.sells) c.sums_there-sums.ensures in omega arith) (let k = c.if-sums-2.false in let b : c.sums_there-sums.result.buys ≡ buys c.args.grid.now (orders c.args.book.now) (price_at c.args.grid.now c.args.at) = ap (λ (s : Sums). s.buys) c.sums_there-sums.ensures in let s : c.sums_there-sums.result.sells ≡ sells c.args.grid.now (orders c.args.book.now) (price_at c.args.grid.now c.args.at) = ap (λ (s : Sums). s.sells) c.sums_there-sums.ensures in omega arith)) in rounds-even c.args.grid.now (orders c.args.book.now) (price_at c.args.grid.now c.args.at) c.args.rounds.now c.args.unit w.0 w.1)
    (subst (λ ts. g.W.Watch.took from (outputs ++ trade_outputs ts) c.trade_volume-else-sums-2.new.watch) (book-fills c.args.book.now c.stands.ensures.book c.args.grid.now (record { rising = c.stands-2.ensures.rising; size = c.requires.size }) c.args.at c.sums_there-sums.result c.sums_there-sums.result.buys c.sums_there-sums.ensures (let h = c.if-sums.false in let k = c.if-sums-2.false in let e : c.sums_there-sums.result.buys ≡ min c.sums_there-sums.result.buys c.sums_there-sums.result.sells = omega arith in e) c.requires.meets c.args.rounds.now c.args.unit) (c.trade_volume-else-sums-2.ensures.told from outputs h)))
