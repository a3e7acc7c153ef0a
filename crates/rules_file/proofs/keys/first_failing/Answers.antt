use Rattle.std.proofs.Common.{◌≡◌, false, length, sym, ◌∙◌}
use Rattle.rules_file.proofs.FormLemmas.{find-later}
use Rattle.rules_file.proofs.keys.first_failing.Goals as goal

pub loop-i-preserved : goal.loop-i-preserved
loop-i-preserved g c =
    let fails : g.R.Row.fails_at c.args.rows.now c.loop-i.i ≡ false = sym c.fails.ensures ∙ c.if-fails.false in
    sym (find-later (g.R.Row.fails_at c.args.rows.now) c.loop-i.i (length c.args.rows.now) c.loop-i-test.true fails) ∙ c.loop-i.invariant
