use Rattle.std.proofs.Common.{sym, ◌∙◌, arith}
use Rattle.session_phase.proofs.SessionLemmas.{next_boundary-here, next_boundary-behind, next_boundary-none}
use Rattle.session_phase.proofs.session.next_due.Goals as goal

pub returns : goal.returns
returns c = sym (next_boundary-none c.args.sessions.now c.loop-session.session-index c.args.after (omega arith) c.loop-session.invariant)

pub returns-in-Some : goal.returns-in-Some
returns-in-Some c =
    let item = c.session-item.result in
    sym (next_boundary-here c.args.sessions.now c.loop-session.session-index c.args.after item c.in-Some.due (omega arith) c.session-item.is c.loop-session.invariant (sym c.next_due.ensures ∙ c.in-Some.is))

pub loop-session-preserved : goal.loop-session-preserved
loop-session-preserved c =
    let item = c.session-item.result in
    next_boundary-behind c.args.sessions.now c.loop-session.session-index c.args.after item (omega arith) c.session-item.is c.loop-session.invariant (sym c.next_due.ensures ∙ c.in_default.is)
