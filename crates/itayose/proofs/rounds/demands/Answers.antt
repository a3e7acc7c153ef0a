use Rattle.std.proofs.Common.{◌≡◌, ◌+◌, ◌<◌, ℕ, get_or, set, ap, subst, sym, ◌∙◌, arith}
use Rattle.std.proofs.lemmas.List.Elements.{recursion_from_All}
use Rattle.allotment.specs.declared.demand.Demand.{Demand}
use Rattle.book_law.specs.BookView.{orders}
use Rattle.book_law.specs.Sides.{total}
use Rattle.book_law.proofs.TakenLemmas.{total-cons}
use Rattle.itayose.specs.Sharing.{is_sharing, sharing_of, with_order}
use Rattle.itayose.proofs.AskingLemmas.{IsAsking, asking-done, asking-fits, asking-more, asking-none, asking-some}
use Rattle.itayose.proofs.SharingLemmas.{filter-keeps}
use Rattle.itayose.proofs.rounds.demands.Goals as goal

pub loop-rest-init : goal.loop-rest-init
loop-rest-init c =
    let b = c.args.book.now in
    let group = c.args.group.now in
    asking-none b group.side group.at (sharing_of b group.side group.at group.markets) c.all_sharers-rest.result c.no_demands-table.result c.all_sharers-rest.ensures c.no_demands-table.ensures
    (filter-keeps (λ o. o.participant.0 < 64) (is_sharing group.side group.at group.markets) (orders b) (recursion_from_All (λ o. o.participant.0 < 64) (orders b) c.requires.participants))

pub with_order-requires : goal.with_order-requires
with_order-requires c =
    let b = c.args.book.now in
    let group = c.args.group.now in
    let s = c.loop-rest.invariant in
    let w = c.next.ensures.left group.side group.at s.rest s.left in
    let none : Demand = record { participant = record { 0 = 0 }; first = 0; asked = 0; share = 0 } in
    let fits = asking-fits b group.side group.at (sharing_of b group.side group.at group.markets) c.loop-rest.rest c.next.new.self c.loop-rest.table s c.next.result.1 w.0 w.1 w.2 none in
    let same : (get_or c.loop-rest.table c.from-own.result none).asked ≡ (get_or c.loop-rest.table c.next.result.1.participant.0 none).asked = ap (λ (n : ℕ). (get_or c.loop-rest.table n none).asked) c.from-own.ensures in
    omega (arith, fits, same, c.requires.left)

pub loop-rest-smaller : goal.loop-rest-smaller
loop-rest-smaller c =
    let b = c.args.book.now in
    let group = c.args.group.now in
    let s = c.loop-rest.invariant in
    let w = c.next.ensures.left group.side group.at s.rest s.left in
    let some = asking-some b group.side group.at (sharing_of b group.side group.at group.markets) c.loop-rest.rest c.next.new.self c.loop-rest.table s c.next.result.1 w.0 w.1 w.2 in
    let all : total s.rest ≡ c.next.result.1.left + total w.0 = ap total w.1 ∙ total-cons c.next.result.1 w.0 in
    omega (arith, some, all, s.left.left, w.2.left)

pub loop-rest-preserved : goal.loop-rest-preserved
loop-rest-preserved c =
    let b = c.args.book.now in
    let group = c.args.group.now in
    let s = c.loop-rest.invariant in
    let w = c.next.ensures.left group.side group.at s.rest s.left in
    let none : Demand = record { participant = record { 0 = 0 }; first = 0; asked = 0; share = 0 } in
    let more = asking-more b group.side group.at (sharing_of b group.side group.at group.markets) c.loop-rest.rest c.next.new.self c.loop-rest.table s c.next.result.1 w.0 w.1 w.2 none c.with_order.result
    (c.with_order.ensures ∙ ap (λ (n : ℕ). with_order (get_or c.loop-rest.table n none) c.next.result.1) c.from-own.ensures) in
    subst (λ (n : ℕ). IsAsking b group.side group.at (sharing_of b group.side group.at group.markets) c.next.new.self (set c.loop-rest.table n c.with_order.result)) (sym c.from-own.ensures) more

pub returns : goal.returns
returns c =
    let b = c.args.book.now in
    let group = c.args.group.now in
    asking-done b group.side group.at (sharing_of b group.side group.at group.markets) c.loop-rest.rest c.loop-rest.table (omega (arith, c.loop-rest-test.false)) c.loop-rest.invariant
