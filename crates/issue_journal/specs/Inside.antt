-- What an issue keeps beside its nodes: its working list, and the machine that did the entries in it.
use Rattle.std.specs.Prelude.{◌≡◌, ℕ, ◌+◌, ◌<◌, ◌≤◌, List, ◌++◌, length, Option, Some, slice_get}
use Rattle.mkt_base.specs.declared.event.Entry.{Entry}
use Rattle.mkt_base.specs.declared.journal.Halt.{Halt}
use Rattle.mirror.specs.Replicas.{Replicas, wiped}
use Rattle.issue_book.specs.State.{Terms}
use Rattle.turn_writer.specs.Losses.{losses_from}
use Rattle.issue_machine.specs.History.{FollowOn, IsHistory, entries_by}
use Rattle.issue_machine.specs.Journal.{MachineView}
use Rattle.issue_machine.specs.Step.{state_after}
use Rattle.issue_journal.specs.Issue.{IssueNow, RoomView}

-- the rules of the issue's trading, how many participants there are, how many entries it takes, and those that it has
pub record WorkView : Type 0 where
  pub terms : Terms
  pub participants : ℕ
  pub capacity : ℕ
  pub entries : List Entry

-- that of a machine and its list
abbrev pub work_of : MachineView → List Entry → WorkView
work_of m entries = record { terms = m.issue.terms; participants = m.participants; capacity = m.issue.capacity; entries = entries }

-- with these entries behind the others
abbrev pub worked : List Entry → WorkView → WorkView
worked more w = record w { entries = w.entries ++ more }

-- the room with its entries taken
abbrev pub work_in : RoomView → List Entry → WorkView
work_in room entries = record { terms = room.terms; participants = room.participants; capacity = room.capacity; entries = entries }

-- the next own number of each caller is how many entries it has
abbrev pub AreOwns : List ℕ → List Entry → Type 0
AreOwns owns journal = (caller : ℕ) → caller < 17 → slice_get owns caller ≡ Some (length (entries_by caller journal))

-- the machine did these entries and no others
pub record HasDone (m : MachineView) (entries : List Entry) : Type 0 where
  pub history : IsHistory m.participants entries
  pub state : m.issue.state ≡ state_after m.issue.terms entries
  pub owns : AreOwns m.next_own entries

-- and there is room for so many entries in all as the machine takes
pub record IsWork (m : MachineView) (entries : List Entry) (room capacity : ℕ) : Type 0 where
  pub done : HasDone m entries
  pub within : length entries ≤ m.issue.capacity
  pub capacity_is : capacity ≡ m.issue.capacity
  pub small : capacity ≤ 100000000
  pub spacious : capacity ≤ room

-- an issue by what it is made of
abbrev pub issue_of : WorkView → Replicas → Option Halt → ℕ → ℕ → IssueNow
issue_of w m halt issue place =
    record {
      fixed = record {
        terms = w.terms;
        participants = w.participants;
        issue = issue;
        capacity = w.capacity;
        place = place;
        first = m.first.label;
        second = m.second.label;
        third = m.third.label;
      };
      entries = w.entries;
      halt = halt;
      nodes = m;
    }

-- the nodes are emptied and lost
abbrev pub all_wiped : Replicas → Replicas
all_wiped m = record { first = wiped m.first; second = wiped m.second; third = wiped m.third; length = m.length }

-- a room by what it is made of
abbrev pub room_of : WorkView → ℕ → RoomView
room_of w issue = record { terms = w.terms; participants = w.participants; issue = issue; capacity = w.capacity }

-- the entries of losses behind those that there are
abbrev pub losses_at : WorkView → List ℕ → List Entry
losses_at w lost = losses_from (length w.entries) (length (entries_by 0 w.entries)) lost

-- the machine did some of the losses, and these are left: it has their entries behind the first ones, and the others may follow
pub record IsRecording (all left : List ℕ) (from now : WorkView) : Type 0 where
  pub same : now ≡ record from { entries = now.entries }
  pub whole : now.entries ++ losses_at now left ≡ from.entries ++ losses_at from all
  pub follow : FollowOn now.participants now.entries (losses_at now left)
  pub fits : length now.entries + length left ≤ now.capacity

-- a machine did these entries from its first one on
pub record IsReplaying (from now : MachineView) (entries : List Entry) : Type 0 where
  pub terms_are : now.issue.terms ≡ from.issue.terms
  pub capacity_is : now.issue.capacity ≡ from.issue.capacity
  pub participants_are : now.participants ≡ from.participants
  pub done : HasDone now entries
