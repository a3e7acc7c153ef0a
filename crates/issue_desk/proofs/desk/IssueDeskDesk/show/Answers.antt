use Rattle.std.proofs.Common.{length, sym, ap, subst, ◌∙◌}
use Rattle.mkt_base.specs.Desk.{WasShown}
use Rattle.turn_cell.specs.Passes.{Known}
use Rattle.issue_desk.specs.Desk.{DeskNow, Tells, events_of, state_of}
use Rattle.issue_desk.proofs.GrownLemmas.{told-later}
use Rattle.issue_desk.proofs.HeldLemmas.{held-desk, held-is, holds-next}
use Rattle.issue_desk.proofs.ShowLemmas.{desk-shown, shown-grown, shown-tells, was-shown}
use Rattle.issue_desk.proofs.desk.IssueDeskDesk.show.Goals as goal

pub invariant_of-self : goal.invariant_of-self
invariant_of-self g c =
    let is = sym c.take.ensures.value ∙ c.in-Some.is in
    let e = c.show-pass.ensures in
    let desk = held-desk c.self.inside.server.now c.self.inside.pass c.self.inside.stop c.in-Some.pass is c.self.invariant in
    holds-next c.self.inside.server.now c.self.inside.pass c.self.inside.stop c.in-Some.pass is c.self.invariant c.show-pass.result.pass c.self.inside.stop (ap (λ (k : Known _). k.cell) e.turn)
    (desk-shown (record { pass = c.in-Some.pass; stop = c.self.inside.stop }) c.show-pass.result.pass c.show-pass.result.board desk e.turn e.grows e.whole e.holds e.others_halt e.board e.length)

pub returns-clause-done : goal.returns-clause-done
returns-clause-done g c =
    let is = sym c.take.ensures.value ∙ c.in-Some.is in
    let e = c.show-pass.ensures in
    let q = c.show-pass.result.pass in
    let desk = held-desk c.self.inside.server.now c.self.inside.pass c.self.inside.stop c.in-Some.pass is c.self.invariant in
    let old = held-is c.self.inside.server.now c.self.inside.pass c.self.inside.stop c.in-Some.pass is c.args.self.now c.self.view_is in
    subst (λ (d : DeskNow). WasShown c.show-pass.result.board (state_of d) (state_of (record { pass = q; stop = c.self.inside.stop }))) (sym old)
    (was-shown (record { pass = c.in-Some.pass; stop = c.self.inside.stop }) q c.show-pass.result.board desk e.turn e.grows e.whole e.holds e.others_halt e.board e.length)

pub returns-clause-board : goal.returns-clause-board
returns-clause-board g c =
    let is = sym c.take.ensures.value ∙ c.in-Some.is in
    let e = c.show-pass.ensures in
    let q = c.show-pass.result.pass in
    let desk = held-desk c.self.inside.server.now c.self.inside.pass c.self.inside.stop c.in-Some.pass is c.self.invariant in
    let old = held-is c.self.inside.server.now c.self.inside.pass c.self.inside.stop c.in-Some.pass is c.args.self.now c.self.view_is in
    subst (λ (d : DeskNow). Tells q c.show-pass.result.board (length (events_of d.pass))) (sym old)
    (shown-tells (record { pass = c.in-Some.pass; stop = c.self.inside.stop }) q c.show-pass.result.board desk e.turn e.grows e.whole e.holds e.others_halt e.board e.length)

pub returns-clause-told : goal.returns-clause-told
returns-clause-told g c = λ board made told.
    let is = sym c.take.ensures.value ∙ c.in-Some.is in
    let e = c.show-pass.ensures in
    let q = c.show-pass.result.pass in
    let desk = held-desk c.self.inside.server.now c.self.inside.pass c.self.inside.stop c.in-Some.pass is c.self.invariant in
    let old = held-is c.self.inside.server.now c.self.inside.pass c.self.inside.stop c.in-Some.pass is c.args.self.now c.self.view_is in
    told-later c.in-Some.pass q (shown-grown (record { pass = c.in-Some.pass; stop = c.self.inside.stop }) q c.show-pass.result.board desk e.turn e.grows e.whole e.holds e.others_halt e.board e.length) board made
    (subst (λ (d : DeskNow). Tells d.pass board made) old told)
