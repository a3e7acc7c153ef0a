-- The end of an issue: the passes of its gateways' desks have met in one, and the issue was closed with that one.
use Rattle.std.specs.Prelude.{◌≡◌, ℕ, ◌<◌, ◌≤◌, [], Some}
use Rattle.mkt_base.specs.declared.journal.Halt.{Halt}
use Rattle.turn_cell.specs.Marks.{Begins, entries_in, halt_in, marks_of}
use Rattle.turn_cell.specs.Passes.{Known}
use Rattle.issue_machine.specs.History.{entries_by}
use Rattle.issue_journal.specs.Issue.{Fixed, IsIssueNow, IssueNow}
use Rattle.issue_server.specs.Served.{IsJournalSeen}
use Rattle.issue_desk.specs.Desk.{DeskNow, IsDesk}

-- The desk of this gateway, as its pass was given up: what it had seen is a front part of what the last pass has seen, by whole turns, and
-- the gateway's marks there are those that the desk made.
pub record HasMet (gateway : ℕ) (d : DeskNow) (final : Known Fixed) : Type 0 where
  pub desk : IsDesk d
  pub caller : d.pass.caller ≡ gateway
  pub fixed : d.pass.fixed ≡ final.fixed
  pub begins : Begins d.pass.seen final.seen
  pub own : marks_of gateway final.seen ≡ d.pass.made

-- An issue that was closed with the last pass of its gateways, from 1 on: its journal and its halt are what that pass has seen; each
-- gateway's desk has met it; and nobody else entered anything, or halted it.
pub record HasClosed (gateways : ℕ) (desks : ℕ → DeskNow) (final : Known Fixed) (i : IssueNow) : Type 0 where
  pub issue_now : IsIssueNow i
  pub whole : IsJournalSeen final
  pub entries : i.entries ≡ entries_in final.seen
  pub halt : i.halt ≡ halt_in final.seen
  pub fixed : Some i.fixed ≡ final.fixed
  pub each : (gateway : ℕ) → 1 ≤ gateway → gateway ≤ gateways → HasMet gateway (desks gateway) final
  pub nobody_else : (gateway : ℕ) → gateways < gateway → entries_by gateway i.entries ≡ []
  pub halter : (h : Halt) → i.halt ≡ Some h → h.caller.0 ≤ gateways
