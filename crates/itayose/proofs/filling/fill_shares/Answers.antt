use Rattle.std.proofs.Common.{◌≡◌, ◌+◌, ◌-◌, ℕ, min, get_or, set, ap, ◌∙◌, arith}
use Rattle.std.proofs.Math.ListN.{length-set}
use Rattle.book_law.specs.Sides.{total}
use Rattle.book_law.proofs.TakenLemmas.{total-cons}
use Rattle.itayose.proofs.ShareLemmas.{giving-done, giving-faced, giving-more, giving-none, giving-some}
use Rattle.itayose.proofs.filling.fill_shares.Goals as goal

pub loop-rest-init : goal.loop-rest-init
loop-rest-init g c =
    giving-none g.W.Watch.took c.args.price.0 c.args.group.now.side c.args.group.now.at c.args.group.now.markets c.args.shares.now c.args.book.now c.args.watch.now c.all_sharers-rest.result
    c.stands.ensures.book c.all_sharers-rest.ensures c.requires.participants c.requires.faced (omega arith)

pub fill-requires-clause-faced : goal.fill-requires-clause-faced
fill-requires-clause-faced g c =
    let s = c.loop-rest.invariant in
    let w = c.next-handle.ensures.left c.args.group.now.side c.args.group.now.at s.rest s.left in
    giving-faced g.W.Watch.took c.args.price.0 c.args.group.now.side c.args.group.now.at c.args.group.now.markets c.args.shares.now c.args.book.now c.args.watch.now c.loop-rest.shares c.loop-rest.rest c.next-handle.new.self
    c.loop-rest.book c.loop-rest.watch s c.loop-rest-test.true c.next-handle.result.1 w.0 w.1 w.2 c.min-qty.result (c.min-qty.ensures ∙ ap (λ (n : ℕ). min c.next-handle.result.1.left (get_or c.loop-rest.shares n 0)) c.from-own.ensures)

pub loop-rest-smaller : goal.loop-rest-smaller
loop-rest-smaller g c =
    let s = c.loop-rest.invariant in
    let w = c.next-handle.ensures.left c.args.group.now.side c.args.group.now.at s.rest s.left in
    let some = giving-some g.W.Watch.took c.args.price.0 c.args.group.now.side c.args.group.now.at c.args.group.now.markets c.args.shares.now c.args.book.now c.args.watch.now c.loop-rest.shares c.loop-rest.rest c.next-handle.new.self
    c.loop-rest.book c.loop-rest.watch s c.loop-rest-test.true c.next-handle.result.1 w.0 w.1 w.2 in
    let all : total s.rest ≡ c.next-handle.result.1.left + total w.0 = ap total w.1 ∙ total-cons c.next-handle.result.1 w.0 in
    omega (arith, some, all, s.left.left, w.2.left)

pub loop-rest-preserved : goal.loop-rest-preserved
loop-rest-preserved g c =
    let s = c.loop-rest.invariant in
    let w = c.next-handle.ensures.left c.args.group.now.side c.args.group.now.at s.rest s.left in
    giving-more g.W.Watch.took c.args.price.0 c.args.group.now.side c.args.group.now.at c.args.group.now.markets c.args.shares.now c.args.book.now c.args.watch.now c.loop-rest.shares c.loop-rest.rest c.next-handle.new.self
    c.loop-rest.book c.loop-rest.watch s c.loop-rest-test.true c.next-handle.result.1 w.0 w.1 w.2 c.min-qty.result (c.min-qty.ensures ∙ ap (λ (n : ℕ). min c.next-handle.result.1.left (get_or c.loop-rest.shares n 0)) c.from-own.ensures)
    c.fill.new.book c.fill.new.watch (set c.loop-rest.shares c.from-own.result (get_or c.loop-rest.shares c.from-own.result 0 - c.min-qty.result))
    (ap (λ (n : ℕ). set c.loop-rest.shares n (get_or c.loop-rest.shares n 0 - c.min-qty.result)) c.from-own.ensures)
    (length-set c.loop-rest.shares c.from-own.result (get_or c.loop-rest.shares c.from-own.result 0 - c.min-qty.result) ∙ s.size)
    c.fill.ensures.filled c.fill.ensures.side c.fill.ensures.others

pub returns : goal.returns
returns g c =
    giving-done g.W.Watch.took c.args.price.0 c.args.group.now.side c.args.group.now.at c.args.group.now.markets c.args.shares.now c.args.book.now c.args.watch.now c.loop-rest.shares c.loop-rest.rest c.loop-rest.book c.loop-rest.watch
    (omega (arith, c.loop-rest-test.false)) c.loop-rest.invariant
