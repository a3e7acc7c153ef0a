use Rattle.std.proofs.Common.{◌≡◌, drop}
use Rattle.session_phase.specs.Sessions.{next_boundary}
use Rattle.session_phase.proofs.session.next_due.Given as goal

-- the next boundary is among those of the sessions that are left
abbrev pub invariant-loop-session : goal.invariant-loop-session
invariant-loop-session l = next_boundary (drop l.session-index l.sessions) l.after ≡ next_boundary l.sessions l.after
