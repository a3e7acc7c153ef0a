use Rattle.std.proofs.Common.{◌<◌, ◌+◌, List, length, get_or, slice_set, None, sym, ap, subst, ◌∙◌, arith}
use Rattle.std.proofs.lemmas.List.{get_or_default}
use Rattle.turn_cell.specs.Passes.{next_pass, one_less}
use Rattle.issue_desk.specs.Desk.{DeskNow}
use Rattle.issue_seats.specs.Steps.{less_desk, next_desk}
use Rattle.issue_seats.proofs.SeatLemmas.{SplitUpto, desk-is, split-more}
use Rattle.issue_seats.proofs.seating.next_desks.Goals as goal

pub loop-desk-preserved : goal.loop-desk-preserved
loop-desk-preserved g c =
    let inv = c.loop-desk.invariant in
    let first = c.loop-desk.first in
    let i = c.loop-desk.desk-index in
    let within : i < length first = omega (arith, c.loop-desk-test.true, c.loop-desk.auto.first) in
    let item : DeskNow = get_or first i c.desk-item.result in
    let e = c.another.ensures in
    let split = split-more c.args.first.now first c.loop-desk.desks.items i c.another.new.self c.another.result within inv.split
    (λ d. desk-is c.another.new.self (one_less item.pass) item.stop e.pass e.stop ∙ ap less_desk (get_or_default first i c.desk-item.result d within))
    (λ d. desk-is c.another.result (next_pass item.pass) None e.next e.next_stop ∙ ap next_desk (get_or_default first i c.desk-item.result d within)) in
    record {
      split = subst (λ (ds : List DeskNow). SplitUpto c.args.first.now (slice_set first i c.another.new.self) ds (i + 1)) (sym c.push_reserved.ensures.items) split;
      room = omega (arith, inv.room, c.push_reserved.ensures.capacity);
    }
