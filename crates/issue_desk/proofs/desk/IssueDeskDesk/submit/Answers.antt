use Rattle.std.proofs.Common.{Option, sym, ap, subst, ◌∙◌}
use Rattle.mkt_base.specs.Desk.{WasSubmitted}
use Rattle.mkt_base.specs.declared.journal.Stopped.{Stopped}
use Rattle.turn_cell.specs.Passes.{Known}
use Rattle.issue_desk.specs.Desk.{DeskNow, IsDesk, Tells, state_of}
use Rattle.issue_desk.proofs.GrownLemmas.{told-later}
use Rattle.issue_desk.proofs.HeldLemmas.{held-desk, held-is, holds-next}
use Rattle.issue_desk.proofs.StopLemmas.{desk-after, grown-by, submitted}
use Rattle.issue_desk.proofs.desk.IssueDeskDesk.submit.Goals as goal

pub invariant_of-self : goal.invariant_of-self
invariant_of-self g c =
    let is = sym c.take.ensures.value ∙ c.in-Some.is in
    let e = c.submit-pass.ensures in
    let q = c.submit-pass.result.pass in
    let desk = held-desk c.self.inside.server.now c.self.inside.pass c.self.inside.stop c.in-Some.pass is c.self.invariant in
    holds-next c.self.inside.server.now c.self.inside.pass c.self.inside.stop c.in-Some.pass is c.self.invariant q c.first_stop-self-inside.result (ap (λ (k : Known _). k.cell) e.turn)
    (subst (λ (s : Option Stopped). IsDesk (record { pass = q; stop = s })) (sym c.first_stop-self-inside.ensures)
    (desk-after (record { pass = c.in-Some.pass; stop = c.self.inside.stop }) q c.args.event c.submit-pass.result.result desk e.turn e.grows e.whole e.holds e.answered e.halted))

pub returns-clause-done : goal.returns-clause-done
returns-clause-done g c =
    let is = sym c.take.ensures.value ∙ c.in-Some.is in
    let e = c.submit-pass.ensures in
    let q = c.submit-pass.result.pass in
    let answer = c.submit-pass.result.result in
    let desk = held-desk c.self.inside.server.now c.self.inside.pass c.self.inside.stop c.in-Some.pass is c.self.invariant in
    let old = held-is c.self.inside.server.now c.self.inside.pass c.self.inside.stop c.in-Some.pass is c.args.self.now c.self.view_is in
    subst (λ (d : DeskNow). WasSubmitted c.args.event answer (state_of d) (state_of (record { pass = q; stop = c.first_stop-self-inside.result }))) (sym old)
    (subst (λ (s : Option Stopped). WasSubmitted c.args.event answer (state_of (record { pass = c.in-Some.pass; stop = c.self.inside.stop })) (state_of (record { pass = q; stop = s }))) (sym c.first_stop-self-inside.ensures)
    (submitted (record { pass = c.in-Some.pass; stop = c.self.inside.stop }) q c.args.event answer desk e.turn e.grows e.whole e.holds e.answered e.halted))

pub returns-clause-told : goal.returns-clause-told
returns-clause-told g c = λ board made told.
    let is = sym c.take.ensures.value ∙ c.in-Some.is in
    let e = c.submit-pass.ensures in
    let q = c.submit-pass.result.pass in
    let answer = c.submit-pass.result.result in
    let old = held-is c.self.inside.server.now c.self.inside.pass c.self.inside.stop c.in-Some.pass is c.args.self.now c.self.view_is in
    told-later c.in-Some.pass q (grown-by c.in-Some.pass q c.args.event answer e.turn e.grows e.whole e.answered) board made (subst (λ (d : DeskNow). Tells d.pass board made) old told)
