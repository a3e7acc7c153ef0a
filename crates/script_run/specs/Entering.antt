-- What a line of a script did to its issue, and how an issue ended.
use Rattle.std.specs.Prelude.{◌≡◌, ◌⊎◌}
use Rattle.mkt_base.specs.declared.event.Event.{Event}
use Rattle.mkt_base.specs.declared.event.Reply.{Reply}
use Rattle.mkt_base.specs.declared.units.Caller.{Caller}
use Rattle.issue_journal.specs.Issue.{IsIssueNow, IssueNow}
use Rattle.issue_journal.specs.Turned.{HasNoNode, TurnDone}

-- the event was recorded with its losses, or the issue is halted
pub record WasEntered (caller : Caller) (event : Event) (old new : IssueNow) : Type 0 where
  pub fixed : new.fixed ≡ old.fixed
  pub stands : IsIssueNow new
  pub turned : ((reply : Reply) × TurnDone caller event reply old new) ⊎ HasNoNode caller event old new
