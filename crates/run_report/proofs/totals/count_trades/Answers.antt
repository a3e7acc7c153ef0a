use Rattle.std.proofs.Common.{◌≡◌, ◌+◌, ◌∷◌, ap, drop, sym, ◌∙◌}
use Rattle.std.proofs.lemmas.List.{drop_more}
use Rattle.run_report.proofs.CountLemmas.{counting-begins, counting-next}
use Rattle.run_report.proofs.totals.count_trades.Goals as goal

pub loop-entry-init : goal.loop-entry-init
loop-entry-init c = counting-begins c.requires.room c.requires.entries

pub loop-entry-preserved : goal.loop-entry-preserved
loop-entry-preserved c =
    let i = c.loop-entry.entry-index in
    let e = c.entry-item.result in
    let left : drop i c.args.journal.now ≡ e ∷ drop (i + 1) c.args.journal.now =
    drop_more c.args.journal.now i e c.loop-entry-test.true ∙ ap (λ x. x ∷ drop (i + 1) c.args.journal.now) (sym c.entry-item.is) in
    counting-next left c.loop-entry.invariant c.count_one.ensures.counted c.count_one.ensures.state c.count_one.ensures.count
