-- What holds of every machine, and of the entries that its orders come from.
use Rattle.std.specs.Prelude.{◌≡◌, ℕ, ◌<◌, ◌≤◌, true, false, List, length, Some, All, slice_index}
use Rattle.mkt_base.specs.declared.event.Entry.{Entry}
use Rattle.mkt_base.specs.declared.event.Phase.{Phase}
use Rattle.mkt_base.specs.declared.order.Order.{Order}
use Rattle.book_law.specs.BookView.{is_of}
use Rattle.session_phase.specs.Sessions.{next_boundary}
use Rattle.session_phase.specs.declared.session.Boundary.TheVariants.{Finish}
use Rattle.session_phase.specs.declared.session.Session.{Session}
use Rattle.issue_book.specs.IssueView.{IssueView}
use Rattle.issue_book.specs.Quoting.{is_trading}
use Rattle.issue_machine.specs.Journal.{MachineView}

-- an order of an earlier entry: its place is below the number of entries, its own number below its caller's next one
pub record IsOlder (entries : ℕ) (next_own : List ℕ) (o : Order) : Type 0 where
  pub place : o.place < entries
  pub own : o.own < slice_index next_own o.caller.0

-- in trading the next boundary after a moment is a finish
abbrev pub AwaitsFinish : List Session → ℕ → Phase → Type 0
AwaitsFinish sessions after phase = is_trading phase ≡ true → (finish : ℕ) × (next_boundary sessions after ≡ Some (finish, Finish))

-- what holds of every machine
pub record IsMachine (m : MachineView) : Type 0 where
  pub few : m.issue.state.entries ≤ m.issue.capacity
  pub bound : m.issue.capacity ≤ 100000000
  pub few_participants : m.participants ≤ 64
  pub callers : length m.next_own ≡ 17
  pub counted : All (λ own. own ≤ m.issue.state.entries) m.next_own
  pub older : All (IsOlder m.issue.state.entries m.next_own) m.issue.state.orders
  pub finish : AwaitsFinish m.issue.terms.sessions m.issue.state.now m.issue.state.phase
  pub nodes : length m.issue.state.nodes ≡ 3

-- an entry behind all orders of the book, of another own number than they, and with room for an order more
pub record MayTake (v : IssueView) (e : Entry) : Type 0 where
  pub last : All (λ o. o.place < e.place) v.state.orders
  pub pair : All (λ o. is_of e.caller e.own o ≡ false) v.state.orders
  pub room : length v.state.orders < v.capacity
