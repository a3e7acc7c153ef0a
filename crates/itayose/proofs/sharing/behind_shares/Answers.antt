use Rattle.std.proofs.Common.{◌≡◌, ap, sym, subst, arith}
use Rattle.book_law.specs.BookView.{NamesFirst, side_of}
use Rattle.itayose.specs.Sharing.{passed}
use Rattle.itayose.proofs.SharingLemmas.{passing-done, passing-empty, passing-ends, passing-more, passing-some, passing-starts}
use Rattle.itayose.proofs.TradingLemmas.{names-one}
use Rattle.itayose.proofs.sharing.behind_shares.Goals as goal

pub returns-in_err-handle : goal.returns-in_err-handle
returns-in_err-handle c =
    subst (NamesFirst c.args.book.now (passed c.args.shares (side_of c.args.book.now c.args.side))) (sym c.from_residual.ensures)
    (passing-empty c.args.book.now c.args.side c.args.shares c.best.result c.best.ensures c.in_err-handle.was)

pub loop-left-init : goal.loop-left-init
loop-left-init c = passing-starts c.args.book.now c.args.side c.args.shares c.best.result c.in_ok-handle.handle c.best.ensures c.in_ok-handle.was

pub returns-in_err-handle-2 : goal.returns-in_err-handle-2
returns-in_err-handle-2 c =
    let s = c.loop-left.invariant in
    subst (NamesFirst c.args.book.now (passed c.args.shares (side_of c.args.book.now c.args.side))) (sym c.from_residual-in_err-handle-2.ensures)
    (passing-ends c.args.book.now c.args.side c.args.shares c.loop-left.left c.loop-left.handle s c.next.result c.loop-left-test.true
    (c.next.ensures.along c.args.side s.order s.front s.back s.names s.split) c.in_err-handle-2.was)

pub loop-left-smaller : goal.loop-left-smaller
loop-left-smaller c =
    let s = c.loop-left.invariant in
    let some = passing-some c.args.book.now c.args.side c.args.shares c.loop-left.left c.loop-left.handle s c.stands.ensures.book in
    let same = names-one c.args.book.now c.loop-left.handle c.order.result s.order c.order.ensures s.names in
    let left : c.order.result.left ≡ s.order.left = ap (λ o. o.left) same in
    omega (arith, some, left, c.saturating_sub-left.ensures, c.loop-left-test.true)

pub loop-left-preserved : goal.loop-left-preserved
loop-left-preserved c =
    let s = c.loop-left.invariant in
    passing-more c.args.book.now c.args.side c.args.shares c.loop-left.left c.loop-left.handle s c.order.result c.next.result c.in_ok-handle-2.handle c.saturating_sub-left.result
    c.loop-left-test.true c.order.ensures c.saturating_sub-left.ensures (c.next.ensures.along c.args.side s.order s.front s.back s.names s.split) c.in_ok-handle-2.was

pub returns : goal.returns
returns c = passing-done c.args.book.now c.args.side c.args.shares c.loop-left.left c.loop-left.handle c.loop-left.invariant (omega (arith, c.loop-left-test.false))
