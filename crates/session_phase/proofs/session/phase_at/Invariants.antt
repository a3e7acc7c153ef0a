use Rattle.std.proofs.Common.{◌≡◌, drop}
use Rattle.std.specs.List.{find}
use Rattle.session_phase.specs.Sessions.{is_open}
use Rattle.session_phase.proofs.session.phase_at.Given as goal

-- the session within which the moment lies is among those that are left
abbrev pub invariant-loop-session : goal.invariant-loop-session
invariant-loop-session l = find (is_open l.at) (drop l.session-index l.sessions) ≡ find (is_open l.at) l.sessions
