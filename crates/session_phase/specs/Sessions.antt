-- The sessions of a day, their boundaries, and the phase at a moment.
use Rattle.std.specs.Prelude.{ℕ, Bool, ◌&&◌, ◌<◌, List, [], ◌∷◌, length, find, flat_map, Option, if◌then◌else◌, nat_lt, nat_le, All}
use Rattle.std.specs.List.{AllAdjacentBelow}
use Rattle.std.specs.Option.{option_map_or}
use Rattle.mkt_base.specs.declared.event.Phase.{Phase}
use Rattle.mkt_base.specs.declared.event.Phase.TheVariants.{Idle, Collecting, Trading}
use Rattle.session_phase.specs.declared.session.Session.{Session}
use Rattle.session_phase.specs.declared.session.Boundary.{Boundary}
use Rattle.session_phase.specs.declared.session.Boundary.TheVariants.{Accept, Begin, Finish}

-- the times of a session rise strictly, after midnight
pub record IsSession (s : Session) : Type 0 where
  pub after_midnight : 0 < s.accept
  pub collects : s.accept < s.begin
  pub trades : s.begin < s.finish

-- sessions of a day: each begins later than the one before has ended
pub record AreSessions (sessions : List Session) : Type 0 where
  pub each : All IsSession sessions
  pub apart : AllAdjacentBelow (λ s next. s.finish < next.accept) sessions (length sessions)

-- the boundaries of a session, in order
abbrev pub session_boundaries : Session → List (ℕ × Boundary)
session_boundaries s = (s.accept, Accept) ∷ (s.begin, Begin) ∷ (s.finish, Finish) ∷ []

-- the boundaries of the day, in order
abbrev pub boundaries : List Session → List (ℕ × Boundary)
boundaries sessions = flat_map session_boundaries sessions

-- the first boundary later than a moment
unfoldable pub next_boundary : List Session → ℕ → Option (ℕ × Boundary)
next_boundary sessions after = find (λ due. nat_lt after due.0) (boundaries sessions)

-- the moment lies within the session, whose last moment is just before `finish`
abbrev pub is_open : ℕ → Session → Bool
is_open at s = nat_le s.accept at && nat_lt at s.finish

-- the phase at a moment within the session
abbrev pub phase_in : ℕ → Session → Phase
phase_in at s = if nat_lt at s.begin then Collecting else Trading

-- the phase at a moment: that of the session within which it lies, else idle
unfoldable pub phase_of : List Session → ℕ → Phase
phase_of sessions at = option_map_or (phase_in at) (find (is_open at) sessions) Idle
