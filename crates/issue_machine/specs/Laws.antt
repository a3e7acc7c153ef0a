-- Laws of the clock and of histories: each is the clause of a function of the same name.
use Rattle.std.specs.Prelude.{◌≡◌, ℕ, ◌+◌, ◌<◌, ◌≤◌, List, length}
use Rattle.mkt_base.specs.declared.event.Entry.{Entry}
use Rattle.rules_file.specs.Rules.{participants_in}
use Rattle.rules_file.specs.declared.issue.IssueRules.{IssueRules}
use Rattle.rules_file.specs.declared.rules.Rules.{Rules}
use Rattle.session_phase.specs.Sessions.{AreSessions}
use Rattle.issue_book.specs.IssueView.{terms_of}
use Rattle.issue_book.specs.State.{State, Terms}
use Rattle.issue_floor.specs.Floor.{IsUndue}
use Rattle.issue_machine.specs.Clock.{boundaries_in, due_steps, most_steps, steps_to}
use Rattle.issue_machine.specs.History.{Follows, IsHistory, nodes_after}
use Rattle.issue_machine.specs.Journal.{IsJournal, MachineView, MayStep, new_machine, stepped_over}
use Rattle.issue_machine.specs.Step.{state_after}

-- The bound on the due steps of a clock event is never met: with any more of them nothing more is done, and nothing is due
-- afterwards.
abbrev pub DueStepsEnd : Type 0
DueStepsEnd = (t : Terms) → AreSessions t.sessions → 1 ≤ t.special_ms → (to : ℕ) (s : State) → IsUndue s.now s.quote
    → ((more : ℕ) → due_steps (most_steps t to s + more) t to (boundaries_in t s.now to) s ≡ steps_to t to s)
    × IsUndue to (steps_to t to s).move.state.quote

-- The nodes of a journal's state go by the rules of nodes alone, whatever else its entries do.
abbrev pub NodesGoByTheirRules : Type 0
NodesGoByTheirRules = (t : Terms) (journal : List Entry) → (state_after t journal).nodes ≡ nodes_after journal

-- A history is a journal that a machine may do from its first entry on.
abbrev pub HistoryIsJournal : Type 0
HistoryIsJournal = (participants : ℕ) (journal : List Entry) → IsHistory participants journal → IsJournal participants journal

-- a new machine that did a journal: it is in the journal's state
pub record HasDone (rules : Rules) (r : IssueRules) (journal : List Entry) (m : MachineView) : Type 0 where
  pub terms : m.issue.terms ≡ terms_of rules r
  pub state : m.issue.state ≡ state_after (terms_of rules r) journal
  pub entries : m.issue.state.entries ≡ length journal

-- A machine that did a history may do every entry that follows it, while it has room.
abbrev pub HistoryGoesOn : Type 0
HistoryGoesOn = (rules : Rules) (r : IssueRules) (capacity : ℕ) (journal : List Entry) → IsHistory (length (participants_in rules)) journal
    → HasDone rules r journal (stepped_over (new_machine rules r capacity) journal)
    × ((e : Entry) → Follows (length (participants_in rules)) journal e → length journal < capacity → MayStep (stepped_over (new_machine rules r capacity) journal) e)
