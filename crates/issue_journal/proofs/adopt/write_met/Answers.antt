use Rattle.std.proofs.Common.{◌≡◌, length, sym, ◌∙◌}
use Rattle.issue_journal.proofs.AdoptedLemmas.{none-written}
use Rattle.issue_journal.proofs.adopt.write_met.Goals as goal

pub returns-then-len-eq0-clause-written : goal.returns-then-len-eq0-clause-written
returns-then-len-eq0-clause-written g c = λ _.
    let none : length c.args.lost.now ≡ 0 = sym c.len.ensures.value ∙ c.if-len-eq0.true in
    none-written c.args.own c.args.lost.now c.args.mirror.now none (c.requires.some none)
