-- What the passes of these tests have in common.
use Rattle.std.specs.Prelude.{◌≡◌, ℕ, ◌-◌, ◌≤◌, [], IfSome}
use Rattle.atomic_table.specs.Seated.{TableId}
use Rattle.turn_cell.specs.Passes.{Known}
use Rattle.issue_journal.specs.Issue.{Fixed}

-- the pass is of this server, its caller is a gateway, and its issue takes the events of three participants
pub record MaySubmit (server : TableId) (pass : Known Fixed) : Type 0 where
  pub cell : pass.cell ≡ server
  pub gateway : pass.caller ≤ 16
  pub participants : IfSome pass.fixed (λ f. 3 ≤ f.participants)

-- the one pass has those callers behind it that the other has
pub record HasTheCallers (p q : Known Fixed) : Type 0 where
  pub callers : q.callers ≡ p.callers
  pub block : q.block ≡ p.block
  pub met : q.met ≡ p.met

-- the first pass of a server for so many callers
pub record IsFirst (server : TableId) (callers : ℕ) (pass : Known Fixed) : Type 0 where
  pub may_submit : MaySubmit server pass
  pub callers_are : pass.callers ≡ callers
  pub block : pass.block ≡ callers - 1
  pub turns : pass.turns ≡ 0
  pub met : pass.met ≡ []
