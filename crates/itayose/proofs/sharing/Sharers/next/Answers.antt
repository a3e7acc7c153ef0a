use Rattle.std.proofs.Common.{◌≡◌, ◌+◌, ◌-◌, ap, ◌∙◌, arith}
use Rattle.book_law.specs.Sides.{total}
use Rattle.book_law.proofs.TakenLemmas.{total-cons}
use Rattle.itayose.proofs.SharingLemmas.{left-is}
use Rattle.itayose.proofs.sharing.Sharers.next.Goals as goal

pub overflow_sub-self : goal.overflow_sub-self
overflow_sub-self c =
    let q = c.requires in
    let w = c.pass_next-next.ensures.passed q.0 q.1 q.2 q.3 in
    let all : total q.2 ≡ c.pass_next-next.result.1.left + total w.0 = ap total w.1 ∙ total-cons c.pass_next-next.result.1 w.0 in
    omega (arith, all, q.3.left, c.pass_next-next.ensures.left)

pub returns-clause-left : goal.returns-clause-left
returns-clause-left c = λ side at rest left.
    let w = c.pass_next-next.ensures.passed side at rest left in
    let all : total rest ≡ c.pass_next-next.result.1.left + total w.0 = ap total w.1 ∙ total-cons c.pass_next-next.result.1 w.0 in
    (w.0, w.1, left-is c.args.book.now side at (c.pass_next-next.new.self.left - c.pass_next-next.result.1.left) w.0 c.pass_next-next.new.self w.2 (omega (arith, all, left.left, c.pass_next-next.ensures.left)))
