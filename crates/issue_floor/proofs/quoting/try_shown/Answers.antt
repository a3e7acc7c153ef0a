use Rattle.std.proofs.Common.{◌++◌, sym, subst}
use Rattle.issue_book.specs.Filled.{IsFilled, left_of}
use Rattle.issue_book.specs.State.{Move}
use Rattle.issue_floor.proofs.FilledLemmas.{filled-shown, filled-stay}
use Rattle.issue_floor.proofs.QuotedLemmas.{try-held, try-pressed}
use Rattle.issue_floor.proofs.ToldLemmas.{told-then}
use Rattle.issue_floor.proofs.quoting.try_shown.Goals as goal

pub returns-then-presses-clause-filled : goal.returns-then-presses-clause-filled
returns-then-presses-clause-filled g c = λ caller own place k.
    let v = c.args.book.now in
    let is = try-pressed v c.args.quote.now c.tried_by-window.result c.attempt-answer.result c.presses.result c.tried_by-window.ensures c.attempt-answer.ensures (c.presses.ensures _ _ _ _) c.if-presses.true in
    subst (λ (m : Move). IsFilled caller own place (left_of caller own v.state) m) (sym is) (filled-stay caller own place v.state k)

pub returns-clause-filled : goal.returns-clause-filled
returns-clause-filled g c = λ caller own place k.
    let v = c.args.book.now in
    let is = try-held v c.args.quote.now c.tried_by-window.result c.attempt-answer.result c.presses.result c.hold-outcome.result c.opposite.result c.new_special-fresh.result c.after_event.result c.tried_by-window.ensures c.attempt-answer.ensures
    (c.presses.ensures _ _ _ _) c.if-presses.false c.hold-outcome.ensures.outcome c.opposite.ensures c.new_special-fresh.ensures.exact c.after_event.ensures in
    subst (λ (m : Move). IsFilled caller own place (left_of caller own v.state) m) (sym is) (filled-shown caller own place _ _ c.after_event.result (c.hold-outcome.ensures.filled caller own place k))

pub returns-clause-told : goal.returns-clause-told
returns-clause-told g c = λ from outputs h.
    let v = c.args.book.now in
    let is = try-held v c.args.quote.now c.tried_by-window.result c.attempt-answer.result c.presses.result c.hold-outcome.result c.opposite.result c.new_special-fresh.result c.after_event.result c.tried_by-window.ensures c.attempt-answer.ensures
    (c.presses.ensures _ _ _ _) c.if-presses.false c.hold-outcome.ensures.outcome c.opposite.ensures c.new_special-fresh.ensures.exact c.after_event.ensures in
    subst (λ (m : Move). g.W.Watch.took from (outputs ++ m.outputs) c.show_quote.new.watch) (sym is)
    (told-then g.W.Watch.took from c.show_quote.new.watch outputs _ _ (c.show_quote.ensures.told from _ (c.hold-outcome.ensures.told from outputs h)))
