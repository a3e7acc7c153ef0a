-- A machine that does a journal again.
use Rattle.std.specs.Prelude.{◌≡◌, ℕ, ◌≤◌}
use Rattle.issue_machine.specs.Journal.{MachineView}

-- the machine has done so many entries, of 10,000 at most, and takes the events of three participants
pub record HasDone (done : ℕ) (m : MachineView) : Type 0 where
  pub entries : m.issue.state.entries ≡ done
  pub capacity : m.issue.capacity ≡ 10000
  pub participants : 3 ≤ m.participants
