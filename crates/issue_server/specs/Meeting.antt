-- What passes that meet know of a halt, and what a closed issue has of each caller.
use Rattle.std.specs.Prelude.{◌≡◌, ◌≢◌, ℕ, List, [], All, Option, None, Some}
use Rattle.mkt_base.specs.declared.event.Entry.{Entry}
use Rattle.mkt_base.specs.declared.journal.Halt.{Halt}
use Rattle.turn_cell.specs.Marks.{entries_in, halt_in}
use Rattle.turn_cell.specs.Passes.{Known, names_in}
use Rattle.issue_machine.specs.History.{entries_by}
use Rattle.issue_journal.specs.Issue.{Fixed}

-- a halt that a pass has seen is still seen
abbrev pub KeepsHalt : Known Fixed → Known Fixed → Type 0
KeepsHalt p q = (halt : Halt) → halt_in p.seen ≡ Some halt → halt_in q.seen ≡ Some halt

-- a halt that a pass had not seen is neither its caller's nor that of a caller that it had met
abbrev pub HaltsByOthers : Known Fixed → Known Fixed → Type 0
HaltsByOthers p q =
    (halt : Halt) → halt_in p.seen ≡ None → halt_in q.seen ≡ Some halt → (halt.caller.0 ≢ p.caller) × All (λ g. g.caller ≢ halt.caller.0) p.met

-- The entries of the pass's caller in a journal are those that the pass made, the entries of each caller that it has met are those that
-- were made there, and no other caller has an entry, but for the system.
pub record AreTheirs (journal : List Entry) (p : Known Fixed) : Type 0 where
  pub own : entries_by p.caller journal ≡ entries_in p.made
  pub met : All (λ g. entries_by g.caller journal ≡ entries_in g.made) p.met
  pub nobody_else : (caller : ℕ) → caller ≢ 0 → names_in caller p ≡ 0 → entries_by caller journal ≡ []

-- a halt that was seen is of the pass's caller, or of one that it has met
abbrev pub IsHaltTheirs : Known Fixed → Type 0
IsHaltTheirs p = (halt : Halt) → halt_in p.seen ≡ Some halt → names_in halt.caller.0 p ≡ 0 → ⊥
