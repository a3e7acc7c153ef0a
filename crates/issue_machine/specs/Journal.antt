-- Journals that a machine may do, and the machine's value in contracts.
use Rattle.std.specs.Prelude.{◌≡◌, ℕ, ◌+◌, ◌<◌, List, [], ◌∷◌, length, replicate, Some, slice_get, slice_set}
use Rattle.mkt_base.specs.declared.event.Entry.{Entry}
use Rattle.mkt_base.specs.declared.event.Event.{Event}
use Rattle.mkt_base.specs.declared.event.Event.TheVariants as events
use Rattle.rules_file.specs.Rules.{participants_in}
use Rattle.rules_file.specs.declared.issue.IssueRules.{IssueRules}
use Rattle.rules_file.specs.declared.rules.Rules.{Rules}
use Rattle.issue_book.specs.IssueView.{IssueView, in_state, terms_of}
use Rattle.issue_book.specs.State.{start}
use Rattle.issue_machine.specs.Step.{step}

-- an event whose participant, where it has one, is numbered below so many; its moment is of the day, and its node one of three
abbrev pub IsEventOf : ℕ → Event → Type 0
IsEventOf participants (events.Order participant side kind qty) = participant.0 < participants
IsEventOf participants (events.Change participant target kind qty) = participant.0 < participants
IsEventOf participants (events.Cancel participant target) = participant.0 < participants
IsEventOf participants (events.Clock at) = at < 86400000
IsEventOf participants (events.Crash node) = node < 3
IsEventOf participants (events.Rejoin node) = node < 3

-- the next own number of each caller, of the system and of 16 gateways, before any entry
abbrev pub no_own : List ℕ
no_own = replicate 17 0

-- and after an entry
abbrev pub own_after : List ℕ → Entry → List ℕ
own_after next_own e = slice_set next_own e.caller.0 (e.own + 1)

-- an entry that may come behind so many others, with these own numbers next
pub record IsEntry (participants before : ℕ) (next_own : List ℕ) (e : Entry) : Type 0 where
  pub place : e.place ≡ before
  pub own : slice_get next_own e.caller.0 ≡ Some e.own
  pub event : IsEventOf participants e.event

-- entries that may come behind so many others, in a row
abbrev pub AreEntries : ℕ → ℕ → List ℕ → List Entry → Type 0
AreEntries participants place next_own [] = Unit {0}
AreEntries participants place next_own (e ∷ es) = IsEntry participants place next_own e × AreEntries participants (place + 1) (own_after next_own e) es

-- a journal: places run from 0, and each caller's own numbers from 0
abbrev pub IsJournal : ℕ → List Entry → Type 0
IsJournal participants journal = AreEntries participants 0 no_own journal

-- a machine: its issue, how many participants there are, and the next own number of each caller
pub record MachineView : Type 0 where
  pub issue : IssueView
  pub participants : ℕ
  pub next_own : List ℕ

-- a machine before its first entry, with room for so many
abbrev pub new_machine : Rules → IssueRules → ℕ → MachineView
new_machine rules issue capacity =
    record {
      issue = record { terms = terms_of rules issue; capacity = capacity; state = start (terms_of rules issue) };
      participants = length (participants_in rules);
      next_own = no_own;
    }

-- a machine after an entry, and after several
abbrev pub stepped : MachineView → Entry → MachineView
stepped m e = record m { issue = in_state (step m.issue.terms e m.issue.state).state m.issue; next_own = own_after m.next_own e }

abbrev pub stepped_over : MachineView → List Entry → MachineView
stepped_over m [] = m
stepped_over m (e ∷ es) = stepped_over (stepped m e) es

-- an entry that a machine may do
pub record MayStep (m : MachineView) (e : Entry) : Type 0 where
  pub room : m.issue.state.entries < m.issue.capacity
  pub entry : IsEntry m.participants m.issue.state.entries m.next_own e
