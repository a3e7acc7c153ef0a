use Rattle.std.proofs.Common.{◌≡◌, ℕ, true, List, [], ap, subst, sym, ◌∙◌, arith}
use Rattle.mkt_base.specs.Book.{price_at}
use Rattle.mkt_base.specs.Fills.{Fill, quantity}
use Rattle.mkt_base.specs.declared.auction.Sums.{Sums}
use Rattle.allotment.specs.Allotment.{allot}
use Rattle.book_law.specs.BookView.{orders}
use Rattle.itayose.specs.Fills.{allotted_fills, demands_of, is_longer, shared_fills}
use Rattle.itayose.specs.Sharing.{AreFilled, own_shares, shares_by_number, sharing_of}
use Rattle.itayose.proofs.SettleLemmas.{ahead-total, asking-total, close-settled-at, facing-is, facing-less, facing-units, facing-within, limit-there, settled-orders, settled-outputs, sharing-fills, sharing-within, wide-is}
use Rattle.itayose.proofs.settling.share_out.Goals as goal

pub give_shares-shares-requires-clause-ahead : goal.give_shares-shares-requires-clause-ahead
give_shares-shares-requires-clause-ahead g c = ahead-total c.args.book.now c.stands.ensures.book c.args.grid.now (record { rising = c.stands-2.ensures.rising; size = c.requires.size }) c.limit-at.result (limit-there c.args.grid.now c.args.side c.limit-at.result (omega (arith, c.stands-2.ensures.some)) c.limit-at.ensures) c.args.side c.sums_there-sums.result c.sums_there-sums.ensures c.side_sums-wide.result.0 c.side_sums-wide.result.1 c.side_sums-wide.result.2 c.side_sums-wide.ensures.wide c.side_sums-wide.ensures.ahead c.side_sums-wide.ensures.facing

pub give_shares-shares-requires-clause-left : goal.give_shares-shares-requires-clause-left
give_shares-shares-requires-clause-left g c = (asking-total c.args.book.now c.stands.ensures.book c.args.grid.now (record { rising = c.stands-2.ensures.rising; size = c.requires.size }) (omega (arith, c.stands-2.ensures.some)) c.args.side c.limit-at.result c.limit-at.ensures c.side_sums-wide.result.0 (wide-is c.args.book.now c.stands.ensures.book c.args.grid.now (record { rising = c.stands-2.ensures.rising; size = c.requires.size }) c.limit-at.result (limit-there c.args.grid.now c.args.side c.limit-at.result (omega (arith, c.stands-2.ensures.some)) c.limit-at.ensures) c.args.side c.sums_there-sums.result c.sums_there-sums.ensures c.side_sums-wide.result.0 c.side_sums-wide.result.1 c.side_sums-wide.result.2 c.side_sums-wide.ensures.wide c.side_sums-wide.ensures.ahead c.side_sums-wide.ensures.facing))

pub give_shares-shares-requires-clause-in_units : goal.give_shares-shares-requires-clause-in_units
give_shares-shares-requires-clause-in_units g c = facing-units c.args.book.now c.stands.ensures.book c.args.grid.now (record { rising = c.stands-2.ensures.rising; size = c.requires.size }) c.limit-at.result (limit-there c.args.grid.now c.args.side c.limit-at.result (omega (arith, c.stands-2.ensures.some)) c.limit-at.ensures) c.args.side c.sums_there-sums.result c.sums_there-sums.ensures c.side_sums-wide.result.0 c.side_sums-wide.result.1 c.side_sums-wide.result.2 c.side_sums-wide.ensures.wide c.side_sums-wide.ensures.ahead c.side_sums-wide.ensures.facing c.args.unit c.requires.units

pub fill_shares-requires-clause-ahead : goal.fill_shares-requires-clause-ahead
fill_shares-requires-clause-ahead g c = ahead-total c.args.book.now c.stands.ensures.book c.args.grid.now (record { rising = c.stands-2.ensures.rising; size = c.requires.size }) c.limit-at.result (limit-there c.args.grid.now c.args.side c.limit-at.result (omega (arith, c.stands-2.ensures.some)) c.limit-at.ensures) c.args.side c.sums_there-sums.result c.sums_there-sums.ensures c.side_sums-wide.result.0 c.side_sums-wide.result.1 c.side_sums-wide.result.2 c.side_sums-wide.ensures.wide c.side_sums-wide.ensures.ahead c.side_sums-wide.ensures.facing

pub fill_shares-requires-clause-left : goal.fill_shares-requires-clause-left
fill_shares-requires-clause-left g c = (asking-total c.args.book.now c.stands.ensures.book c.args.grid.now (record { rising = c.stands-2.ensures.rising; size = c.requires.size }) (omega (arith, c.stands-2.ensures.some)) c.args.side c.limit-at.result c.limit-at.ensures c.side_sums-wide.result.0 (wide-is c.args.book.now c.stands.ensures.book c.args.grid.now (record { rising = c.stands-2.ensures.rising; size = c.requires.size }) c.limit-at.result (limit-there c.args.grid.now c.args.side c.limit-at.result (omega (arith, c.stands-2.ensures.some)) c.limit-at.ensures) c.args.side c.sums_there-sums.result c.sums_there-sums.ensures c.side_sums-wide.result.0 c.side_sums-wide.result.1 c.side_sums-wide.result.2 c.side_sums-wide.ensures.wide c.side_sums-wide.ensures.ahead c.side_sums-wide.ensures.facing))

pub fill_shares-requires-clause-faced : goal.fill_shares-requires-clause-faced
fill_shares-requires-clause-faced g c =
    let within = sharing-within c.args.book.now c.stands.ensures.book c.args.side c.limit-at.result true c.requires.participants c.args.unit c.requires.units c.args.rounds.now c.requires.rounds c.side_sums-wide.result.2 (facing-units c.args.book.now c.stands.ensures.book c.args.grid.now (record { rising = c.stands-2.ensures.rising; size = c.requires.size }) c.limit-at.result (limit-there c.args.grid.now c.args.side c.limit-at.result (omega (arith, c.stands-2.ensures.some)) c.limit-at.ensures) c.args.side c.sums_there-sums.result c.sums_there-sums.ensures c.side_sums-wide.result.0 c.side_sums-wide.result.1 c.side_sums-wide.result.2 c.side_sums-wide.ensures.wide c.side_sums-wide.ensures.ahead c.side_sums-wide.ensures.facing c.args.unit c.requires.units) (let less = facing-less c.args.book.now c.stands.ensures.book c.args.grid.now (record { rising = c.stands-2.ensures.rising; size = c.requires.size }) c.limit-at.result (limit-there c.args.grid.now c.args.side c.limit-at.result (omega (arith, c.stands-2.ensures.some)) c.limit-at.ensures) c.args.side c.sums_there-sums.result c.sums_there-sums.ensures c.side_sums-wide.result.0 c.side_sums-wide.result.1 c.side_sums-wide.result.2 c.side_sums-wide.ensures.wide c.side_sums-wide.ensures.ahead c.side_sums-wide.ensures.facing (subst (λ (n : ℕ). is_longer c.args.grid.now (orders c.args.book.now) (price_at c.args.grid.now n) c.args.side ≡ true) (sym c.limit-at.ensures) c.requires.presses) in let all = (asking-total c.args.book.now c.stands.ensures.book c.args.grid.now (record { rising = c.stands-2.ensures.rising; size = c.requires.size }) (omega (arith, c.stands-2.ensures.some)) c.args.side c.limit-at.result c.limit-at.ensures c.side_sums-wide.result.0 (wide-is c.args.book.now c.stands.ensures.book c.args.grid.now (record { rising = c.stands-2.ensures.rising; size = c.requires.size }) c.limit-at.result (limit-there c.args.grid.now c.args.side c.limit-at.result (omega (arith, c.stands-2.ensures.some)) c.limit-at.ensures) c.args.side c.sums_there-sums.result c.sums_there-sums.ensures c.side_sums-wide.result.0 c.side_sums-wide.result.1 c.side_sums-wide.result.2 c.side_sums-wide.ensures.wide c.side_sums-wide.ensures.ahead c.side_sums-wide.ensures.facing)) in omega (arith, less, all)) in
    let same : quantity (own_shares c.give_shares-shares.result (sharing_of c.args.book.now c.args.side c.limit-at.result true)) ≡ quantity (own_shares (shares_by_number (allot c.args.rounds.now c.args.unit (demands_of (sharing_of c.args.book.now c.args.side c.limit-at.result true)) c.side_sums-wide.result.2)) (sharing_of c.args.book.now c.args.side c.limit-at.result true)) = ap (λ xs. quantity (own_shares xs (sharing_of c.args.book.now c.args.side c.limit-at.result true))) c.give_shares-shares.ensures.shares in
    let facing = facing-within c.args.book.now c.stands.ensures.book c.args.grid.now (record { rising = c.stands-2.ensures.rising; size = c.requires.size }) c.limit-at.result (limit-there c.args.grid.now c.args.side c.limit-at.result (omega (arith, c.stands-2.ensures.some)) c.limit-at.ensures) c.args.side c.sums_there-sums.result c.sums_there-sums.ensures c.side_sums-wide.result.0 c.side_sums-wide.result.1 c.side_sums-wide.result.2 c.side_sums-wide.ensures.wide c.side_sums-wide.ensures.ahead c.side_sums-wide.ensures.facing in
    omega (arith, within, same, facing)

pub returns-clause-book : goal.returns-clause-book
returns-clause-book g c =
    settled-orders g.W.Watch.took (price_at c.args.grid.now c.limit-at.result) c.args.side (shared_fills (sharing_of c.args.book.now c.args.side c.limit-at.result true) (allot c.args.rounds.now c.args.unit (demands_of (sharing_of c.args.book.now c.args.side c.limit-at.result true)) c.side_sums-wide.result.2)) (allot c.args.rounds.now c.args.unit (demands_of (sharing_of c.args.book.now c.args.side c.limit-at.result true)) c.side_sums-wide.result.2) c.args.book.now c.fill_shares.new.book c.args.watch.now c.give_shares-shares.new.watch c.fill_shares.new.watch
    (subst (λ (n : ℕ). AreFilled g.W.Watch.took n c.args.side (shared_fills (sharing_of c.args.book.now c.args.side c.limit-at.result true) (allot c.args.rounds.now c.args.unit (demands_of (sharing_of c.args.book.now c.args.side c.limit-at.result true)) c.side_sums-wide.result.2)) [] c.args.book.now c.fill_shares.new.book c.give_shares-shares.new.watch c.fill_shares.new.watch) (ap (λ (s : Sums). s.price.0) c.sums_there-sums.ensures)
    (subst (λ (xs : List Fill). AreFilled g.W.Watch.took c.sums_there-sums.result.price.0 c.args.side xs [] c.args.book.now c.fill_shares.new.book c.give_shares-shares.new.watch c.fill_shares.new.watch)
    (ap (λ xs. own_shares xs (sharing_of c.args.book.now c.args.side c.limit-at.result true)) c.give_shares-shares.ensures.shares ∙ sharing-fills c.args.book.now c.stands.ensures.book c.args.side c.limit-at.result true c.requires.participants c.args.unit c.requires.units c.args.rounds.now c.requires.rounds c.side_sums-wide.result.2 (facing-units c.args.book.now c.stands.ensures.book c.args.grid.now (record { rising = c.stands-2.ensures.rising; size = c.requires.size }) c.limit-at.result (limit-there c.args.grid.now c.args.side c.limit-at.result (omega (arith, c.stands-2.ensures.some)) c.limit-at.ensures) c.args.side c.sums_there-sums.result c.sums_there-sums.ensures c.side_sums-wide.result.0 c.side_sums-wide.result.1 c.side_sums-wide.result.2 c.side_sums-wide.ensures.wide c.side_sums-wide.ensures.ahead c.side_sums-wide.ensures.facing c.args.unit c.requires.units) (let less = facing-less c.args.book.now c.stands.ensures.book c.args.grid.now (record { rising = c.stands-2.ensures.rising; size = c.requires.size }) c.limit-at.result (limit-there c.args.grid.now c.args.side c.limit-at.result (omega (arith, c.stands-2.ensures.some)) c.limit-at.ensures) c.args.side c.sums_there-sums.result c.sums_there-sums.ensures c.side_sums-wide.result.0 c.side_sums-wide.result.1 c.side_sums-wide.result.2 c.side_sums-wide.ensures.wide c.side_sums-wide.ensures.ahead c.side_sums-wide.ensures.facing (subst (λ (n : ℕ). is_longer c.args.grid.now (orders c.args.book.now) (price_at c.args.grid.now n) c.args.side ≡ true) (sym c.limit-at.ensures) c.requires.presses) in let all = (asking-total c.args.book.now c.stands.ensures.book c.args.grid.now (record { rising = c.stands-2.ensures.rising; size = c.requires.size }) (omega (arith, c.stands-2.ensures.some)) c.args.side c.limit-at.result c.limit-at.ensures c.side_sums-wide.result.0 (wide-is c.args.book.now c.stands.ensures.book c.args.grid.now (record { rising = c.stands-2.ensures.rising; size = c.requires.size }) c.limit-at.result (limit-there c.args.grid.now c.args.side c.limit-at.result (omega (arith, c.stands-2.ensures.some)) c.limit-at.ensures) c.args.side c.sums_there-sums.result c.sums_there-sums.ensures c.side_sums-wide.result.0 c.side_sums-wide.result.1 c.side_sums-wide.result.2 c.side_sums-wide.ensures.wide c.side_sums-wide.ensures.ahead c.side_sums-wide.ensures.facing)) in omega (arith, less, all))) c.fill_shares.ensures))
    (allotted_fills c.args.grid.now (orders c.args.book.now) c.args.side c.args.rounds.now c.args.unit)
    (close-settled-at c.args.book.now c.stands.ensures.book c.args.grid.now (record { rising = c.stands-2.ensures.rising; size = c.requires.size }) (omega (arith, c.stands-2.ensures.some)) c.args.side c.limit-at.result c.limit-at.ensures c.args.rounds.now c.args.unit c.side_sums-wide.result.2 (facing-is c.args.book.now c.stands.ensures.book c.args.grid.now (record { rising = c.stands-2.ensures.rising; size = c.requires.size }) c.limit-at.result (limit-there c.args.grid.now c.args.side c.limit-at.result (omega (arith, c.stands-2.ensures.some)) c.limit-at.ensures) c.args.side c.sums_there-sums.result c.sums_there-sums.ensures c.side_sums-wide.result.0 c.side_sums-wide.result.1 c.side_sums-wide.result.2 c.side_sums-wide.ensures.wide c.side_sums-wide.ensures.ahead c.side_sums-wide.ensures.facing))

pub returns-clause-told : goal.returns-clause-told
returns-clause-told g c =
    settled-outputs g.W.Watch.took (price_at c.args.grid.now c.limit-at.result) c.args.side (shared_fills (sharing_of c.args.book.now c.args.side c.limit-at.result true) (allot c.args.rounds.now c.args.unit (demands_of (sharing_of c.args.book.now c.args.side c.limit-at.result true)) c.side_sums-wide.result.2)) (allot c.args.rounds.now c.args.unit (demands_of (sharing_of c.args.book.now c.args.side c.limit-at.result true)) c.side_sums-wide.result.2) c.args.book.now c.fill_shares.new.book c.args.watch.now c.give_shares-shares.new.watch c.fill_shares.new.watch
    (subst (λ (n : ℕ). AreFilled g.W.Watch.took n c.args.side (shared_fills (sharing_of c.args.book.now c.args.side c.limit-at.result true) (allot c.args.rounds.now c.args.unit (demands_of (sharing_of c.args.book.now c.args.side c.limit-at.result true)) c.side_sums-wide.result.2)) [] c.args.book.now c.fill_shares.new.book c.give_shares-shares.new.watch c.fill_shares.new.watch) (ap (λ (s : Sums). s.price.0) c.sums_there-sums.ensures)
    (subst (λ (xs : List Fill). AreFilled g.W.Watch.took c.sums_there-sums.result.price.0 c.args.side xs [] c.args.book.now c.fill_shares.new.book c.give_shares-shares.new.watch c.fill_shares.new.watch)
    (ap (λ xs. own_shares xs (sharing_of c.args.book.now c.args.side c.limit-at.result true)) c.give_shares-shares.ensures.shares ∙ sharing-fills c.args.book.now c.stands.ensures.book c.args.side c.limit-at.result true c.requires.participants c.args.unit c.requires.units c.args.rounds.now c.requires.rounds c.side_sums-wide.result.2 (facing-units c.args.book.now c.stands.ensures.book c.args.grid.now (record { rising = c.stands-2.ensures.rising; size = c.requires.size }) c.limit-at.result (limit-there c.args.grid.now c.args.side c.limit-at.result (omega (arith, c.stands-2.ensures.some)) c.limit-at.ensures) c.args.side c.sums_there-sums.result c.sums_there-sums.ensures c.side_sums-wide.result.0 c.side_sums-wide.result.1 c.side_sums-wide.result.2 c.side_sums-wide.ensures.wide c.side_sums-wide.ensures.ahead c.side_sums-wide.ensures.facing c.args.unit c.requires.units) (let less = facing-less c.args.book.now c.stands.ensures.book c.args.grid.now (record { rising = c.stands-2.ensures.rising; size = c.requires.size }) c.limit-at.result (limit-there c.args.grid.now c.args.side c.limit-at.result (omega (arith, c.stands-2.ensures.some)) c.limit-at.ensures) c.args.side c.sums_there-sums.result c.sums_there-sums.ensures c.side_sums-wide.result.0 c.side_sums-wide.result.1 c.side_sums-wide.result.2 c.side_sums-wide.ensures.wide c.side_sums-wide.ensures.ahead c.side_sums-wide.ensures.facing (subst (λ (n : ℕ). is_longer c.args.grid.now (orders c.args.book.now) (price_at c.args.grid.now n) c.args.side ≡ true) (sym c.limit-at.ensures) c.requires.presses) in let all = (asking-total c.args.book.now c.stands.ensures.book c.args.grid.now (record { rising = c.stands-2.ensures.rising; size = c.requires.size }) (omega (arith, c.stands-2.ensures.some)) c.args.side c.limit-at.result c.limit-at.ensures c.side_sums-wide.result.0 (wide-is c.args.book.now c.stands.ensures.book c.args.grid.now (record { rising = c.stands-2.ensures.rising; size = c.requires.size }) c.limit-at.result (limit-there c.args.grid.now c.args.side c.limit-at.result (omega (arith, c.stands-2.ensures.some)) c.limit-at.ensures) c.args.side c.sums_there-sums.result c.sums_there-sums.ensures c.side_sums-wide.result.0 c.side_sums-wide.result.1 c.side_sums-wide.result.2 c.side_sums-wide.ensures.wide c.side_sums-wide.ensures.ahead c.side_sums-wide.ensures.facing)) in omega (arith, less, all))) c.fill_shares.ensures))
    (allotted_fills c.args.grid.now (orders c.args.book.now) c.args.side c.args.rounds.now c.args.unit)
    (close-settled-at c.args.book.now c.stands.ensures.book c.args.grid.now (record { rising = c.stands-2.ensures.rising; size = c.requires.size }) (omega (arith, c.stands-2.ensures.some)) c.args.side c.limit-at.result c.limit-at.ensures c.args.rounds.now c.args.unit c.side_sums-wide.result.2 (facing-is c.args.book.now c.stands.ensures.book c.args.grid.now (record { rising = c.stands-2.ensures.rising; size = c.requires.size }) c.limit-at.result (limit-there c.args.grid.now c.args.side c.limit-at.result (omega (arith, c.stands-2.ensures.some)) c.limit-at.ensures) c.args.side c.sums_there-sums.result c.sums_there-sums.ensures c.side_sums-wide.result.0 c.side_sums-wide.result.1 c.side_sums-wide.result.2 c.side_sums-wide.ensures.wide c.side_sums-wide.ensures.ahead c.side_sums-wide.ensures.facing)) c.give_shares-shares.ensures.told
