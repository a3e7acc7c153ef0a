-- Laws of sessions: each is the clause of a function of the same name.
use Rattle.std.specs.Prelude.{◌<◌, List, AllPairs}
use Rattle.session_phase.specs.Sessions.{AreSessions, boundaries}
use Rattle.session_phase.specs.declared.session.Session.{Session}

-- the boundaries of a day's sessions rise strictly
abbrev pub BoundariesRise : Type 0
BoundariesRise = (sessions : List Session) → AreSessions sessions → AllPairs (λ a b. a.0 < b.0) (boundaries sessions)
