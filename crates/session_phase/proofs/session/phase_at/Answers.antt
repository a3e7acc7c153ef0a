use Rattle.std.proofs.Common.{sym, ◌∙◌, arith}
use Rattle.session_phase.proofs.SessionLemmas.{phase_of-open, phase_of-idle}
use Rattle.session_phase.proofs.session.phase_at.Goals as goal

pub returns-then-is_open : goal.returns-then-is_open
returns-then-is_open c =
    let item = c.session-item.result in
    c.phase.ensures
    ∙ sym (phase_of-open c.args.sessions.now c.loop-session.session-index c.args.at item (omega arith) c.session-item.is c.loop-session.invariant (sym c.is_open.ensures ∙ c.if-is_open.true))

pub returns : goal.returns
returns c = sym (phase_of-idle c.args.sessions.now c.loop-session.session-index c.args.at (omega arith) c.loop-session.invariant)
