use Rattle.std.proofs.Common.{◌≡◌, ◌+◌, ◌-◌, ◌<◌, ◌≤◌, false, [], ◌++◌, All, ap, subst, sym, ◌∙◌, arith}
use Rattle.mkt_base.specs.Book.{price_at}
use Rattle.mkt_base.specs.Fills.{quantity, whole}
use Rattle.mkt_base.specs.declared.auction.Sums.{Sums}
use Rattle.allotment.specs.Allotment.{allot}
use Rattle.book_law.specs.BookView.{orders, side_of}
use Rattle.book_law.specs.Sides.{total}
use Rattle.itayose.specs.Fills.{auction_fills, demands_of, opposite, shared_fills}
use Rattle.itayose.specs.Sharing.{in_front, own_shares, shares_by_number, sharing_of}
use Rattle.itayose.specs.declared.margin.Margin.TheVariants.{Rounds}
use Rattle.itayose.proofs.FillingLemmas.{quantity-append, quantity-none}
use Rattle.itayose.proofs.SettleLemmas.{ahead-faced, ahead-facing, ahead-total, ahead-within, facing-less, facing-volume, facing-within, front-and-level, front-shares, given-units, inside-book, level-stays, level-total, none-ahead, participants-after, rounds-settled-as, settled-orders, settled-outputs, sharing-fills, sharing-within}
use Rattle.itayose.proofs.settling.settle_by_rounds.Goals as goal

pub overflow_sub-group : goal.overflow_sub-group
overflow_sub-group g c = ahead-within c.args.book.now c.stands.ensures.book c.args.grid.now (record { rising = c.stands-2.ensures.rising; size = c.requires.size }) c.args.at c.requires.in_range c.args.side c.sums_there-sums.result c.sums_there-sums.ensures c.side_sums-wide.result.0 c.side_sums-wide.result.1 c.side_sums-wide.result.2 c.side_sums-wide.ensures.wide c.side_sums-wide.ensures.ahead c.side_sums-wide.ensures.facing

pub overflow_sub-facing : goal.overflow_sub-facing
overflow_sub-facing g c = ahead-facing c.args.book.now c.stands.ensures.book c.args.grid.now (record { rising = c.stands-2.ensures.rising; size = c.requires.size }) c.args.at c.requires.in_range c.args.side c.sums_there-sums.result c.sums_there-sums.ensures c.side_sums-wide.result.0 c.side_sums-wide.result.1 c.side_sums-wide.result.2 c.side_sums-wide.ensures.wide c.side_sums-wide.ensures.ahead c.side_sums-wide.ensures.facing c.requires.meets

pub give_shares-shares-requires-clause-ahead : goal.give_shares-shares-requires-clause-ahead
give_shares-shares-requires-clause-ahead g c = ahead-total c.args.book.now c.stands.ensures.book c.args.grid.now (record { rising = c.stands-2.ensures.rising; size = c.requires.size }) c.args.at c.requires.in_range c.args.side c.sums_there-sums.result c.sums_there-sums.ensures c.side_sums-wide.result.0 c.side_sums-wide.result.1 c.side_sums-wide.result.2 c.side_sums-wide.ensures.wide c.side_sums-wide.ensures.ahead c.side_sums-wide.ensures.facing

pub give_shares-shares-requires-clause-left : goal.give_shares-shares-requires-clause-left
give_shares-shares-requires-clause-left g c = level-total c.args.book.now c.stands.ensures.book c.args.grid.now (record { rising = c.stands-2.ensures.rising; size = c.requires.size }) c.args.at c.requires.in_range c.args.side c.sums_there-sums.result c.sums_there-sums.ensures c.side_sums-wide.result.0 c.side_sums-wide.result.1 c.side_sums-wide.result.2 c.side_sums-wide.ensures.wide c.side_sums-wide.ensures.ahead c.side_sums-wide.ensures.facing

pub give_shares-shares-requires-clause-in_units : goal.give_shares-shares-requires-clause-in_units
give_shares-shares-requires-clause-in_units g c = given-units c.args.book.now c.stands.ensures.book c.args.grid.now (record { rising = c.stands-2.ensures.rising; size = c.requires.size }) c.args.at c.requires.in_range c.args.side c.sums_there-sums.result c.sums_there-sums.ensures c.side_sums-wide.result.0 c.side_sums-wide.result.1 c.side_sums-wide.result.2 c.side_sums-wide.ensures.wide c.side_sums-wide.ensures.ahead c.side_sums-wide.ensures.facing c.args.unit c.requires.units

pub fill_front-requires-clause-whole : goal.fill_front-requires-clause-whole
fill_front-requires-clause-whole g c = front-shares c.args.book.now c.stands.ensures.book c.args.grid.now (record { rising = c.stands-2.ensures.rising; size = c.requires.size }) c.args.at c.requires.in_range c.args.side c.sums_there-sums.result c.sums_there-sums.ensures c.side_sums-wide.result.0 c.side_sums-wide.result.1 c.side_sums-wide.result.2 c.side_sums-wide.ensures.wide c.side_sums-wide.ensures.ahead c.side_sums-wide.ensures.facing

pub fill_front-requires-clause-faced : goal.fill_front-requires-clause-faced
fill_front-requires-clause-faced g c = ahead-faced c.args.book.now c.stands.ensures.book c.args.grid.now (record { rising = c.stands-2.ensures.rising; size = c.requires.size }) c.args.at c.requires.in_range c.args.side c.sums_there-sums.result c.sums_there-sums.ensures c.side_sums-wide.result.0 c.side_sums-wide.result.1 c.side_sums-wide.result.2 c.side_sums-wide.ensures.wide c.side_sums-wide.ensures.ahead c.side_sums-wide.ensures.facing c.requires.meets

pub fill_shares-requires-clause-ahead : goal.fill_shares-requires-clause-ahead
fill_shares-requires-clause-ahead g c = none-ahead c.args.book.now c.fill_front.new.book c.stands.ensures.book c.stands-3.ensures.book c.args.side c.args.at c.side_sums-wide.result.1 (inside-book c.args.book.now c.stands.ensures.book c.args.grid.now (record { rising = c.stands-2.ensures.rising; size = c.requires.size }) c.args.at c.requires.in_range c.args.side) c.fill_front.ensures.filled.prices (ahead-total c.args.book.now c.stands.ensures.book c.args.grid.now (record { rising = c.stands-2.ensures.rising; size = c.requires.size }) c.args.at c.requires.in_range c.args.side c.sums_there-sums.result c.sums_there-sums.ensures c.side_sums-wide.result.0 c.side_sums-wide.result.1 c.side_sums-wide.result.2 c.side_sums-wide.ensures.wide c.side_sums-wide.ensures.ahead c.side_sums-wide.ensures.facing) c.fill_front.ensures.side

pub fill_shares-requires-clause-left : goal.fill_shares-requires-clause-left
fill_shares-requires-clause-left g c = level-total c.args.book.now c.stands.ensures.book c.args.grid.now (record { rising = c.stands-2.ensures.rising; size = c.requires.size }) c.args.at c.requires.in_range c.args.side c.sums_there-sums.result c.sums_there-sums.ensures c.side_sums-wide.result.0 c.side_sums-wide.result.1 c.side_sums-wide.result.2 c.side_sums-wide.ensures.wide c.side_sums-wide.ensures.ahead c.side_sums-wide.ensures.facing ∙ ap total (sym (level-stays c.args.book.now c.fill_front.new.book c.stands.ensures.book c.stands-3.ensures.book c.args.side c.args.at c.side_sums-wide.result.1 (inside-book c.args.book.now c.stands.ensures.book c.args.grid.now (record { rising = c.stands-2.ensures.rising; size = c.requires.size }) c.args.at c.requires.in_range c.args.side) c.fill_front.ensures.filled.prices (ahead-total c.args.book.now c.stands.ensures.book c.args.grid.now (record { rising = c.stands-2.ensures.rising; size = c.requires.size }) c.args.at c.requires.in_range c.args.side c.sums_there-sums.result c.sums_there-sums.ensures c.side_sums-wide.result.0 c.side_sums-wide.result.1 c.side_sums-wide.result.2 c.side_sums-wide.ensures.wide c.side_sums-wide.ensures.ahead c.side_sums-wide.ensures.facing) c.fill_front.ensures.side))

pub fill_shares-requires-clause-participants : goal.fill_shares-requires-clause-participants
fill_shares-requires-clause-participants g c = subst (All (λ o. o.participant.0 < 64)) (sym c.fill_front.ensures.filled.book) (participants-after c.fill_front.ensures.filled.done (orders c.args.book.now) c.requires.participants)

pub fill_shares-requires-clause-faced : goal.fill_shares-requires-clause-faced
fill_shares-requires-clause-faced g c =
    let os = sharing_of c.args.book.now c.args.side c.args.at false in
    let within = sharing-within c.args.book.now c.stands.ensures.book c.args.side c.args.at false c.requires.participants c.args.unit c.requires.units c.args.rounds.now c.requires.rounds (c.side_sums-wide.result.2 - c.side_sums-wide.result.1) (given-units c.args.book.now c.stands.ensures.book c.args.grid.now (record { rising = c.stands-2.ensures.rising; size = c.requires.size }) c.args.at c.requires.in_range c.args.side c.sums_there-sums.result c.sums_there-sums.ensures c.side_sums-wide.result.0 c.side_sums-wide.result.1 c.side_sums-wide.result.2 c.side_sums-wide.ensures.wide c.side_sums-wide.ensures.ahead c.side_sums-wide.ensures.facing c.args.unit c.requires.units) (let less = facing-less c.args.book.now c.stands.ensures.book c.args.grid.now (record { rising = c.stands-2.ensures.rising; size = c.requires.size }) c.args.at c.requires.in_range c.args.side c.sums_there-sums.result c.sums_there-sums.ensures c.side_sums-wide.result.0 c.side_sums-wide.result.1 c.side_sums-wide.result.2 c.side_sums-wide.ensures.wide c.side_sums-wide.ensures.ahead c.side_sums-wide.ensures.facing c.requires.longer in let level = level-total c.args.book.now c.stands.ensures.book c.args.grid.now (record { rising = c.stands-2.ensures.rising; size = c.requires.size }) c.args.at c.requires.in_range c.args.side c.sums_there-sums.result c.sums_there-sums.ensures c.side_sums-wide.result.0 c.side_sums-wide.result.1 c.side_sums-wide.result.2 c.side_sums-wide.ensures.wide c.side_sums-wide.ensures.ahead c.side_sums-wide.ensures.facing in omega (arith, less, level)) in
    let same : quantity (own_shares c.give_shares-shares.result (sharing_of c.fill_front.new.book c.args.side c.args.at false)) ≡ quantity (own_shares (shares_by_number (allot c.args.rounds.now c.args.unit (demands_of (sharing_of c.args.book.now c.args.side c.args.at false)) (c.side_sums-wide.result.2 - c.side_sums-wide.result.1))) os) =
    ap (λ xs. quantity (own_shares c.give_shares-shares.result xs)) (level-stays c.args.book.now c.fill_front.new.book c.stands.ensures.book c.stands-3.ensures.book c.args.side c.args.at c.side_sums-wide.result.1 (inside-book c.args.book.now c.stands.ensures.book c.args.grid.now (record { rising = c.stands-2.ensures.rising; size = c.requires.size }) c.args.at c.requires.in_range c.args.side) c.fill_front.ensures.filled.prices (ahead-total c.args.book.now c.stands.ensures.book c.args.grid.now (record { rising = c.stands-2.ensures.rising; size = c.requires.size }) c.args.at c.requires.in_range c.args.side c.sums_there-sums.result c.sums_there-sums.ensures c.side_sums-wide.result.0 c.side_sums-wide.result.1 c.side_sums-wide.result.2 c.side_sums-wide.ensures.wide c.side_sums-wide.ensures.ahead c.side_sums-wide.ensures.facing) c.fill_front.ensures.side) ∙ ap (λ xs. quantity (own_shares xs os)) c.give_shares-shares.ensures.shares in
    let faced : quantity (whole (in_front c.side_sums-wide.result.1 (side_of c.args.book.now c.args.side))) + total (side_of c.fill_front.new.book (opposite c.args.side)) ≡ quantity [] + total (side_of c.args.book.now (opposite c.args.side)) = c.fill_front.ensures.filled.faced in
    let front = front-shares c.args.book.now c.stands.ensures.book c.args.grid.now (record { rising = c.stands-2.ensures.rising; size = c.requires.size }) c.args.at c.requires.in_range c.args.side c.sums_there-sums.result c.sums_there-sums.ensures c.side_sums-wide.result.0 c.side_sums-wide.result.1 c.side_sums-wide.result.2 c.side_sums-wide.ensures.wide c.side_sums-wide.ensures.ahead c.side_sums-wide.ensures.facing in
    let ahead = ahead-facing c.args.book.now c.stands.ensures.book c.args.grid.now (record { rising = c.stands-2.ensures.rising; size = c.requires.size }) c.args.at c.requires.in_range c.args.side c.sums_there-sums.result c.sums_there-sums.ensures c.side_sums-wide.result.0 c.side_sums-wide.result.1 c.side_sums-wide.result.2 c.side_sums-wide.ensures.wide c.side_sums-wide.ensures.ahead c.side_sums-wide.ensures.facing c.requires.meets in
    let facing = facing-within c.args.book.now c.stands.ensures.book c.args.grid.now (record { rising = c.stands-2.ensures.rising; size = c.requires.size }) c.args.at c.requires.in_range c.args.side c.sums_there-sums.result c.sums_there-sums.ensures c.side_sums-wide.result.0 c.side_sums-wide.result.1 c.side_sums-wide.result.2 c.side_sums-wide.ensures.wide c.side_sums-wide.ensures.ahead c.side_sums-wide.ensures.facing in
    omega (arith, within, same, faced, front, ahead, facing, quantity-none)

pub returns-clause-book : goal.returns-clause-book
returns-clause-book g c =
    settled-orders g.W.Watch.took (price_at c.args.grid.now c.args.at) c.args.side ((whole (in_front c.side_sums-wide.result.1 (side_of c.args.book.now c.args.side))) ++ shared_fills (sharing_of c.args.book.now c.args.side c.args.at false) (allot c.args.rounds.now c.args.unit (demands_of (sharing_of c.args.book.now c.args.side c.args.at false)) (c.side_sums-wide.result.2 - c.side_sums-wide.result.1))) (allot c.args.rounds.now c.args.unit (demands_of (sharing_of c.args.book.now c.args.side c.args.at false)) (c.side_sums-wide.result.2 - c.side_sums-wide.result.1)) c.args.book.now c.fill_shares.new.book c.args.watch.now c.give_shares-shares.new.watch c.fill_shares.new.watch
    (front-and-level g.W.Watch.took c.sums_there-sums.result.price.0 (price_at c.args.grid.now c.args.at) c.args.side (whole (in_front c.side_sums-wide.result.1 (side_of c.args.book.now c.args.side))) (own_shares c.give_shares-shares.result (sharing_of c.fill_front.new.book c.args.side c.args.at false)) (shared_fills (sharing_of c.args.book.now c.args.side c.args.at false) (allot c.args.rounds.now c.args.unit (demands_of (sharing_of c.args.book.now c.args.side c.args.at false)) (c.side_sums-wide.result.2 - c.side_sums-wide.result.1)))
    c.args.book.now c.fill_front.new.book c.fill_shares.new.book c.give_shares-shares.new.watch c.fill_front.new.watch c.fill_shares.new.watch (ap (λ (s : Sums). s.price.0) c.sums_there-sums.ensures)
    (ap (own_shares c.give_shares-shares.result) (level-stays c.args.book.now c.fill_front.new.book c.stands.ensures.book c.stands-3.ensures.book c.args.side c.args.at c.side_sums-wide.result.1 (inside-book c.args.book.now c.stands.ensures.book c.args.grid.now (record { rising = c.stands-2.ensures.rising; size = c.requires.size }) c.args.at c.requires.in_range c.args.side) c.fill_front.ensures.filled.prices (ahead-total c.args.book.now c.stands.ensures.book c.args.grid.now (record { rising = c.stands-2.ensures.rising; size = c.requires.size }) c.args.at c.requires.in_range c.args.side c.sums_there-sums.result c.sums_there-sums.ensures c.side_sums-wide.result.0 c.side_sums-wide.result.1 c.side_sums-wide.result.2 c.side_sums-wide.ensures.wide c.side_sums-wide.ensures.ahead c.side_sums-wide.ensures.facing) c.fill_front.ensures.side) ∙ ap (λ xs. own_shares xs (sharing_of c.args.book.now c.args.side c.args.at false)) c.give_shares-shares.ensures.shares ∙ sharing-fills c.args.book.now c.stands.ensures.book c.args.side c.args.at false c.requires.participants c.args.unit c.requires.units c.args.rounds.now c.requires.rounds (c.side_sums-wide.result.2 - c.side_sums-wide.result.1) (given-units c.args.book.now c.stands.ensures.book c.args.grid.now (record { rising = c.stands-2.ensures.rising; size = c.requires.size }) c.args.at c.requires.in_range c.args.side c.sums_there-sums.result c.sums_there-sums.ensures c.side_sums-wide.result.0 c.side_sums-wide.result.1 c.side_sums-wide.result.2 c.side_sums-wide.ensures.wide c.side_sums-wide.ensures.ahead c.side_sums-wide.ensures.facing c.args.unit c.requires.units) (let less = facing-less c.args.book.now c.stands.ensures.book c.args.grid.now (record { rising = c.stands-2.ensures.rising; size = c.requires.size }) c.args.at c.requires.in_range c.args.side c.sums_there-sums.result c.sums_there-sums.ensures c.side_sums-wide.result.0 c.side_sums-wide.result.1 c.side_sums-wide.result.2 c.side_sums-wide.ensures.wide c.side_sums-wide.ensures.ahead c.side_sums-wide.ensures.facing c.requires.longer in let level = level-total c.args.book.now c.stands.ensures.book c.args.grid.now (record { rising = c.stands-2.ensures.rising; size = c.requires.size }) c.args.at c.requires.in_range c.args.side c.sums_there-sums.result c.sums_there-sums.ensures c.side_sums-wide.result.0 c.side_sums-wide.result.1 c.side_sums-wide.result.2 c.side_sums-wide.ensures.wide c.side_sums-wide.ensures.ahead c.side_sums-wide.ensures.facing in omega (arith, less, level)))
    c.fill_front.ensures.filled c.fill_shares.ensures)
    (auction_fills c.args.grid.now (orders c.args.book.now) (price_at c.args.grid.now c.args.at) Rounds c.args.rounds.now c.args.unit)
    (let f = c.side_sums-wide.result.2 in
    let within = sharing-within c.args.book.now c.stands.ensures.book c.args.side c.args.at false c.requires.participants c.args.unit c.requires.units c.args.rounds.now c.requires.rounds (c.side_sums-wide.result.2 - c.side_sums-wide.result.1) (given-units c.args.book.now c.stands.ensures.book c.args.grid.now (record { rising = c.stands-2.ensures.rising; size = c.requires.size }) c.args.at c.requires.in_range c.args.side c.sums_there-sums.result c.sums_there-sums.ensures c.side_sums-wide.result.0 c.side_sums-wide.result.1 c.side_sums-wide.result.2 c.side_sums-wide.ensures.wide c.side_sums-wide.ensures.ahead c.side_sums-wide.ensures.facing c.args.unit c.requires.units) (let less = facing-less c.args.book.now c.stands.ensures.book c.args.grid.now (record { rising = c.stands-2.ensures.rising; size = c.requires.size }) c.args.at c.requires.in_range c.args.side c.sums_there-sums.result c.sums_there-sums.ensures c.side_sums-wide.result.0 c.side_sums-wide.result.1 c.side_sums-wide.result.2 c.side_sums-wide.ensures.wide c.side_sums-wide.ensures.ahead c.side_sums-wide.ensures.facing c.requires.longer in let level = level-total c.args.book.now c.stands.ensures.book c.args.grid.now (record { rising = c.stands-2.ensures.rising; size = c.requires.size }) c.args.at c.requires.in_range c.args.side c.sums_there-sums.result c.sums_there-sums.ensures c.side_sums-wide.result.0 c.side_sums-wide.result.1 c.side_sums-wide.result.2 c.side_sums-wide.ensures.wide c.side_sums-wide.ensures.ahead c.side_sums-wide.ensures.facing in omega (arith, less, level)) in
    let fills = ap quantity (sharing-fills c.args.book.now c.stands.ensures.book c.args.side c.args.at false c.requires.participants c.args.unit c.requires.units c.args.rounds.now c.requires.rounds (c.side_sums-wide.result.2 - c.side_sums-wide.result.1) (given-units c.args.book.now c.stands.ensures.book c.args.grid.now (record { rising = c.stands-2.ensures.rising; size = c.requires.size }) c.args.at c.requires.in_range c.args.side c.sums_there-sums.result c.sums_there-sums.ensures c.side_sums-wide.result.0 c.side_sums-wide.result.1 c.side_sums-wide.result.2 c.side_sums-wide.ensures.wide c.side_sums-wide.ensures.ahead c.side_sums-wide.ensures.facing c.args.unit c.requires.units) (let less = facing-less c.args.book.now c.stands.ensures.book c.args.grid.now (record { rising = c.stands-2.ensures.rising; size = c.requires.size }) c.args.at c.requires.in_range c.args.side c.sums_there-sums.result c.sums_there-sums.ensures c.side_sums-wide.result.0 c.side_sums-wide.result.1 c.side_sums-wide.result.2 c.side_sums-wide.ensures.wide c.side_sums-wide.ensures.ahead c.side_sums-wide.ensures.facing c.requires.longer in let level = level-total c.args.book.now c.stands.ensures.book c.args.grid.now (record { rising = c.stands-2.ensures.rising; size = c.requires.size }) c.args.at c.requires.in_range c.args.side c.sums_there-sums.result c.sums_there-sums.ensures c.side_sums-wide.result.0 c.side_sums-wide.result.1 c.side_sums-wide.result.2 c.side_sums-wide.ensures.wide c.side_sums-wide.ensures.ahead c.side_sums-wide.ensures.facing in omega (arith, less, level))) in
    let front = front-shares c.args.book.now c.stands.ensures.book c.args.grid.now (record { rising = c.stands-2.ensures.rising; size = c.requires.size }) c.args.at c.requires.in_range c.args.side c.sums_there-sums.result c.sums_there-sums.ensures c.side_sums-wide.result.0 c.side_sums-wide.result.1 c.side_sums-wide.result.2 c.side_sums-wide.ensures.wide c.side_sums-wide.ensures.ahead c.side_sums-wide.ensures.facing in
    let ahead = ahead-facing c.args.book.now c.stands.ensures.book c.args.grid.now (record { rising = c.stands-2.ensures.rising; size = c.requires.size }) c.args.at c.requires.in_range c.args.side c.sums_there-sums.result c.sums_there-sums.ensures c.side_sums-wide.result.0 c.side_sums-wide.result.1 c.side_sums-wide.result.2 c.side_sums-wide.ensures.wide c.side_sums-wide.ensures.ahead c.side_sums-wide.ensures.facing c.requires.meets in
    let all = quantity-append (whole (in_front c.side_sums-wide.result.1 (side_of c.args.book.now c.args.side))) (shared_fills (sharing_of c.args.book.now c.args.side c.args.at false) (allot c.args.rounds.now c.args.unit (demands_of (sharing_of c.args.book.now c.args.side c.args.at false)) (c.side_sums-wide.result.2 - c.side_sums-wide.result.1))) in
    let most : quantity ((whole (in_front c.side_sums-wide.result.1 (side_of c.args.book.now c.args.side))) ++ shared_fills (sharing_of c.args.book.now c.args.side c.args.at false) (allot c.args.rounds.now c.args.unit (demands_of (sharing_of c.args.book.now c.args.side c.args.at false)) (c.side_sums-wide.result.2 - c.side_sums-wide.result.1))) ≤ f = omega (arith, within, fills, front, ahead, all) in
    rounds-settled-as c.args.book.now c.stands.ensures.book c.args.grid.now (record { rising = c.stands-2.ensures.rising; size = c.requires.size }) c.args.at c.requires.in_range c.args.side c.requires.meets c.requires.longer c.args.rounds.now c.args.unit f (facing-volume c.args.book.now c.stands.ensures.book c.args.grid.now (record { rising = c.stands-2.ensures.rising; size = c.requires.size }) c.args.at c.requires.in_range c.args.side c.sums_there-sums.result c.sums_there-sums.ensures c.side_sums-wide.result.0 c.side_sums-wide.result.1 c.side_sums-wide.result.2 c.side_sums-wide.ensures.wide c.side_sums-wide.ensures.ahead c.side_sums-wide.ensures.facing c.requires.longer) c.side_sums-wide.result.1 (ahead-total c.args.book.now c.stands.ensures.book c.args.grid.now (record { rising = c.stands-2.ensures.rising; size = c.requires.size }) c.args.at c.requires.in_range c.args.side c.sums_there-sums.result c.sums_there-sums.ensures c.side_sums-wide.result.0 c.side_sums-wide.result.1 c.side_sums-wide.result.2 c.side_sums-wide.ensures.wide c.side_sums-wide.ensures.ahead c.side_sums-wide.ensures.facing) most)

pub returns-clause-told : goal.returns-clause-told
returns-clause-told g c =
    settled-outputs g.W.Watch.took (price_at c.args.grid.now c.args.at) c.args.side ((whole (in_front c.side_sums-wide.result.1 (side_of c.args.book.now c.args.side))) ++ shared_fills (sharing_of c.args.book.now c.args.side c.args.at false) (allot c.args.rounds.now c.args.unit (demands_of (sharing_of c.args.book.now c.args.side c.args.at false)) (c.side_sums-wide.result.2 - c.side_sums-wide.result.1))) (allot c.args.rounds.now c.args.unit (demands_of (sharing_of c.args.book.now c.args.side c.args.at false)) (c.side_sums-wide.result.2 - c.side_sums-wide.result.1)) c.args.book.now c.fill_shares.new.book c.args.watch.now c.give_shares-shares.new.watch c.fill_shares.new.watch
    (front-and-level g.W.Watch.took c.sums_there-sums.result.price.0 (price_at c.args.grid.now c.args.at) c.args.side (whole (in_front c.side_sums-wide.result.1 (side_of c.args.book.now c.args.side))) (own_shares c.give_shares-shares.result (sharing_of c.fill_front.new.book c.args.side c.args.at false)) (shared_fills (sharing_of c.args.book.now c.args.side c.args.at false) (allot c.args.rounds.now c.args.unit (demands_of (sharing_of c.args.book.now c.args.side c.args.at false)) (c.side_sums-wide.result.2 - c.side_sums-wide.result.1)))
    c.args.book.now c.fill_front.new.book c.fill_shares.new.book c.give_shares-shares.new.watch c.fill_front.new.watch c.fill_shares.new.watch (ap (λ (s : Sums). s.price.0) c.sums_there-sums.ensures)
    (ap (own_shares c.give_shares-shares.result) (level-stays c.args.book.now c.fill_front.new.book c.stands.ensures.book c.stands-3.ensures.book c.args.side c.args.at c.side_sums-wide.result.1 (inside-book c.args.book.now c.stands.ensures.book c.args.grid.now (record { rising = c.stands-2.ensures.rising; size = c.requires.size }) c.args.at c.requires.in_range c.args.side) c.fill_front.ensures.filled.prices (ahead-total c.args.book.now c.stands.ensures.book c.args.grid.now (record { rising = c.stands-2.ensures.rising; size = c.requires.size }) c.args.at c.requires.in_range c.args.side c.sums_there-sums.result c.sums_there-sums.ensures c.side_sums-wide.result.0 c.side_sums-wide.result.1 c.side_sums-wide.result.2 c.side_sums-wide.ensures.wide c.side_sums-wide.ensures.ahead c.side_sums-wide.ensures.facing) c.fill_front.ensures.side) ∙ ap (λ xs. own_shares xs (sharing_of c.args.book.now c.args.side c.args.at false)) c.give_shares-shares.ensures.shares ∙ sharing-fills c.args.book.now c.stands.ensures.book c.args.side c.args.at false c.requires.participants c.args.unit c.requires.units c.args.rounds.now c.requires.rounds (c.side_sums-wide.result.2 - c.side_sums-wide.result.1) (given-units c.args.book.now c.stands.ensures.book c.args.grid.now (record { rising = c.stands-2.ensures.rising; size = c.requires.size }) c.args.at c.requires.in_range c.args.side c.sums_there-sums.result c.sums_there-sums.ensures c.side_sums-wide.result.0 c.side_sums-wide.result.1 c.side_sums-wide.result.2 c.side_sums-wide.ensures.wide c.side_sums-wide.ensures.ahead c.side_sums-wide.ensures.facing c.args.unit c.requires.units) (let less = facing-less c.args.book.now c.stands.ensures.book c.args.grid.now (record { rising = c.stands-2.ensures.rising; size = c.requires.size }) c.args.at c.requires.in_range c.args.side c.sums_there-sums.result c.sums_there-sums.ensures c.side_sums-wide.result.0 c.side_sums-wide.result.1 c.side_sums-wide.result.2 c.side_sums-wide.ensures.wide c.side_sums-wide.ensures.ahead c.side_sums-wide.ensures.facing c.requires.longer in let level = level-total c.args.book.now c.stands.ensures.book c.args.grid.now (record { rising = c.stands-2.ensures.rising; size = c.requires.size }) c.args.at c.requires.in_range c.args.side c.sums_there-sums.result c.sums_there-sums.ensures c.side_sums-wide.result.0 c.side_sums-wide.result.1 c.side_sums-wide.result.2 c.side_sums-wide.ensures.wide c.side_sums-wide.ensures.ahead c.side_sums-wide.ensures.facing in omega (arith, less, level)))
    c.fill_front.ensures.filled c.fill_shares.ensures)
    (auction_fills c.args.grid.now (orders c.args.book.now) (price_at c.args.grid.now c.args.at) Rounds c.args.rounds.now c.args.unit)
    (let f = c.side_sums-wide.result.2 in
    let within = sharing-within c.args.book.now c.stands.ensures.book c.args.side c.args.at false c.requires.participants c.args.unit c.requires.units c.args.rounds.now c.requires.rounds (c.side_sums-wide.result.2 - c.side_sums-wide.result.1) (given-units c.args.book.now c.stands.ensures.book c.args.grid.now (record { rising = c.stands-2.ensures.rising; size = c.requires.size }) c.args.at c.requires.in_range c.args.side c.sums_there-sums.result c.sums_there-sums.ensures c.side_sums-wide.result.0 c.side_sums-wide.result.1 c.side_sums-wide.result.2 c.side_sums-wide.ensures.wide c.side_sums-wide.ensures.ahead c.side_sums-wide.ensures.facing c.args.unit c.requires.units) (let less = facing-less c.args.book.now c.stands.ensures.book c.args.grid.now (record { rising = c.stands-2.ensures.rising; size = c.requires.size }) c.args.at c.requires.in_range c.args.side c.sums_there-sums.result c.sums_there-sums.ensures c.side_sums-wide.result.0 c.side_sums-wide.result.1 c.side_sums-wide.result.2 c.side_sums-wide.ensures.wide c.side_sums-wide.ensures.ahead c.side_sums-wide.ensures.facing c.requires.longer in let level = level-total c.args.book.now c.stands.ensures.book c.args.grid.now (record { rising = c.stands-2.ensures.rising; size = c.requires.size }) c.args.at c.requires.in_range c.args.side c.sums_there-sums.result c.sums_there-sums.ensures c.side_sums-wide.result.0 c.side_sums-wide.result.1 c.side_sums-wide.result.2 c.side_sums-wide.ensures.wide c.side_sums-wide.ensures.ahead c.side_sums-wide.ensures.facing in omega (arith, less, level)) in
    let fills = ap quantity (sharing-fills c.args.book.now c.stands.ensures.book c.args.side c.args.at false c.requires.participants c.args.unit c.requires.units c.args.rounds.now c.requires.rounds (c.side_sums-wide.result.2 - c.side_sums-wide.result.1) (given-units c.args.book.now c.stands.ensures.book c.args.grid.now (record { rising = c.stands-2.ensures.rising; size = c.requires.size }) c.args.at c.requires.in_range c.args.side c.sums_there-sums.result c.sums_there-sums.ensures c.side_sums-wide.result.0 c.side_sums-wide.result.1 c.side_sums-wide.result.2 c.side_sums-wide.ensures.wide c.side_sums-wide.ensures.ahead c.side_sums-wide.ensures.facing c.args.unit c.requires.units) (let less = facing-less c.args.book.now c.stands.ensures.book c.args.grid.now (record { rising = c.stands-2.ensures.rising; size = c.requires.size }) c.args.at c.requires.in_range c.args.side c.sums_there-sums.result c.sums_there-sums.ensures c.side_sums-wide.result.0 c.side_sums-wide.result.1 c.side_sums-wide.result.2 c.side_sums-wide.ensures.wide c.side_sums-wide.ensures.ahead c.side_sums-wide.ensures.facing c.requires.longer in let level = level-total c.args.book.now c.stands.ensures.book c.args.grid.now (record { rising = c.stands-2.ensures.rising; size = c.requires.size }) c.args.at c.requires.in_range c.args.side c.sums_there-sums.result c.sums_there-sums.ensures c.side_sums-wide.result.0 c.side_sums-wide.result.1 c.side_sums-wide.result.2 c.side_sums-wide.ensures.wide c.side_sums-wide.ensures.ahead c.side_sums-wide.ensures.facing in omega (arith, less, level))) in
    let front = front-shares c.args.book.now c.stands.ensures.book c.args.grid.now (record { rising = c.stands-2.ensures.rising; size = c.requires.size }) c.args.at c.requires.in_range c.args.side c.sums_there-sums.result c.sums_there-sums.ensures c.side_sums-wide.result.0 c.side_sums-wide.result.1 c.side_sums-wide.result.2 c.side_sums-wide.ensures.wide c.side_sums-wide.ensures.ahead c.side_sums-wide.ensures.facing in
    let ahead = ahead-facing c.args.book.now c.stands.ensures.book c.args.grid.now (record { rising = c.stands-2.ensures.rising; size = c.requires.size }) c.args.at c.requires.in_range c.args.side c.sums_there-sums.result c.sums_there-sums.ensures c.side_sums-wide.result.0 c.side_sums-wide.result.1 c.side_sums-wide.result.2 c.side_sums-wide.ensures.wide c.side_sums-wide.ensures.ahead c.side_sums-wide.ensures.facing c.requires.meets in
    let all = quantity-append (whole (in_front c.side_sums-wide.result.1 (side_of c.args.book.now c.args.side))) (shared_fills (sharing_of c.args.book.now c.args.side c.args.at false) (allot c.args.rounds.now c.args.unit (demands_of (sharing_of c.args.book.now c.args.side c.args.at false)) (c.side_sums-wide.result.2 - c.side_sums-wide.result.1))) in
    let most : quantity ((whole (in_front c.side_sums-wide.result.1 (side_of c.args.book.now c.args.side))) ++ shared_fills (sharing_of c.args.book.now c.args.side c.args.at false) (allot c.args.rounds.now c.args.unit (demands_of (sharing_of c.args.book.now c.args.side c.args.at false)) (c.side_sums-wide.result.2 - c.side_sums-wide.result.1))) ≤ f = omega (arith, within, fills, front, ahead, all) in
    rounds-settled-as c.args.book.now c.stands.ensures.book c.args.grid.now (record { rising = c.stands-2.ensures.rising; size = c.requires.size }) c.args.at c.requires.in_range c.args.side c.requires.meets c.requires.longer c.args.rounds.now c.args.unit f (facing-volume c.args.book.now c.stands.ensures.book c.args.grid.now (record { rising = c.stands-2.ensures.rising; size = c.requires.size }) c.args.at c.requires.in_range c.args.side c.sums_there-sums.result c.sums_there-sums.ensures c.side_sums-wide.result.0 c.side_sums-wide.result.1 c.side_sums-wide.result.2 c.side_sums-wide.ensures.wide c.side_sums-wide.ensures.ahead c.side_sums-wide.ensures.facing c.requires.longer) c.side_sums-wide.result.1 (ahead-total c.args.book.now c.stands.ensures.book c.args.grid.now (record { rising = c.stands-2.ensures.rising; size = c.requires.size }) c.args.at c.requires.in_range c.args.side c.sums_there-sums.result c.sums_there-sums.ensures c.side_sums-wide.result.0 c.side_sums-wide.result.1 c.side_sums-wide.result.2 c.side_sums-wide.ensures.wide c.side_sums-wide.ensures.ahead c.side_sums-wide.ensures.facing) most) c.give_shares-shares.ensures.told
