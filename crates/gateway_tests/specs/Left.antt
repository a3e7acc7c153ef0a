-- The lines that a gateway has left.
use Rattle.std.specs.Prelude.{ℕ, ◌<◌, ◌≤◌, List, All}
use Rattle.mkt_base.specs.declared.script.ScriptLine.{ScriptLine}

-- none is of an earlier stage, and each is of one of so many issues
abbrev pub AreLeft : ℕ → ℕ → List ScriptLine → Type 0
AreLeft stage issues lines = All (λ (l : ScriptLine). (stage ≤ l.stage) × (l.issue < issues)) lines
