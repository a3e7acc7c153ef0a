use Rattle.std.proofs.Common.{◌≡◌, ◌+◌, ◌∷◌, ap, drop, sym, ◌∙◌}
use Rattle.std.proofs.lemmas.List.{drop_more}
use Rattle.run_report.proofs.JournalLemmas.{stepping-begins, stepping-next, stepping-stops}
use Rattle.run_report.proofs.issue.step_all.Goals as goal

pub loop-entry-init : goal.loop-entry-init
loop-entry-init g c = stepping-begins c.requires.room c.requires.entries

pub loop-entry-preserved : goal.loop-entry-preserved
loop-entry-preserved g c =
    let i = c.loop-entry.entry-index in
    let e = c.entry-item.result in
    let left : drop i c.args.journal.now ≡ e ∷ drop (i + 1) c.args.journal.now =
    drop_more c.args.journal.now i e c.loop-entry-test.true ∙ ap (λ x. x ∷ drop (i + 1) c.args.journal.now) (sym c.entry-item.is) in
    stepping-next left c.loop-entry.invariant c.step_one.ensures.shown c.step_one.ensures.state c.step_one.ensures.count

pub returns-then-fault-clause-shown : goal.returns-then-fault-clause-shown
returns-then-fault-clause-shown g c =
    let i = c.loop-entry.entry-index in
    let e = c.entry-item.result in
    let left : drop i c.args.journal.now ≡ e ∷ drop (i + 1) c.args.journal.now =
    drop_more c.args.journal.now i e c.loop-entry-test.true ∙ ap (λ x. x ∷ drop (i + 1) c.args.journal.now) (sym c.entry-item.is) in
    stepping-stops (sym c.fault.ensures ∙ c.if-fault.true)
    (stepping-next left c.loop-entry.invariant c.step_one.ensures.shown c.step_one.ensures.state c.step_one.ensures.count)
