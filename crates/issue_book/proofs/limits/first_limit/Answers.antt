use Rattle.issue_book.proofs.LimitLemmas.{along-first, along-less, along-limit, along-next, no-limit}
use Rattle.std.proofs.Common.{◌<◌, length, subst, sym}
use Rattle.issue_book.specs.Limits.{IsAlong, from_handle}
use Rattle.issue_book.proofs.limits.first_limit.Goals as goal

pub loop-next-init : goal.loop-next-init
loop-next-init c = along-first c.args.book.now c.stands.ensures.book c.args.side c.best-next.result c.best-next.ensures

pub returns-in-At : goal.returns-in-At
returns-in-At c =
    along-limit c.args.book.now c.stands.ensures.book c.args.side c.in-Some.handle c.order.result c.in-At.i
    (subst (IsAlong c.args.book.now c.args.side) c.in-Some.is c.loop-next.invariant) c.order.ensures c.in-At.is

pub loop-next-smaller : goal.loop-next-smaller
loop-next-smaller c =
    subst (λ n. length (from_handle c.args.book.now c.args.side c.next-next.result) < length (from_handle c.args.book.now c.args.side n)) (sym c.in-Some.is)
    (along-less c.args.book.now c.stands.ensures.book c.args.side c.in-Some.handle c.order.result c.next-next.result
    (subst (IsAlong c.args.book.now c.args.side) c.in-Some.is c.loop-next.invariant) c.order.ensures c.next-next.ensures.along)

pub loop-next-preserved : goal.loop-next-preserved
loop-next-preserved c =
    along-next c.args.book.now c.stands.ensures.book c.args.side c.in-Some.handle c.order.result c.next-next.result
    (subst (IsAlong c.args.book.now c.args.side) c.in-Some.is c.loop-next.invariant) c.order.ensures c.next-next.ensures.along (no-limit c.order.result c.in_default-spot.not-At)
