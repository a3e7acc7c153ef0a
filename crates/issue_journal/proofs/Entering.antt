-- What is known of an issue when an entry is to be written.
use Rattle.std.proofs.Common.{◌≡◌, ℕ, length, Option, None, Some, sym, ap, subst, ◌∙◌}
use Rattle.mkt_base.specs.declared.event.Entry.{Entry}
use Rattle.mkt_base.specs.declared.journal.Halt.{Halt}
use Rattle.mirror.specs.Replicas.{Replicas}
use Rattle.issue_machine.specs.History.{entries_by}
use Rattle.issue_machine.specs.Journal.{IsEventOf}
use Rattle.turn_writer.specs.Writing.{NoneLeft}
use Rattle.issue_journal.specs.Inside.{WorkView, all_wiped, issue_of}
use Rattle.issue_journal.specs.Issue.{IsIssueNow, IssueNow}
use Rattle.issue_journal.specs.Turned.{HasPlace, WasHalted, entry_behind, halt_of}
use Rattle.issue_journal.proofs.Halting.{none-left-wiped}

pub record Entering (w : WorkView) (m : Replicas) (halt : Option Halt) (issue place : ℕ) (e : Entry) : Type 0 where
  pub running : halt ≡ None
  pub stands : IsIssueNow (issue_of w m None issue place)
  pub place_is : e.place ≡ length w.entries
  pub own : e.own ≡ length (entries_by e.caller.0 w.entries)
  pub event : IsEventOf w.participants e.event
  pub fits : HasPlace e.event (issue_of w m None issue place)

pub entering : (w : WorkView) (m : Replicas) (halt : Option Halt) (issue place : ℕ) (i : IssueNow) (e : Entry) → issue_of w m halt issue place ≡ i
    → IsIssueNow (issue_of w m halt issue place) → i.halt ≡ None → e ≡ entry_behind i.entries e.caller e.event → IsEventOf i.fixed.participants e.event → HasPlace e.event i
    → Entering w m halt issue place e
entering w m halt issue place i e view stands none is event fits =
    let running : halt ≡ None = ap (λ (x : IssueNow). x.halt) view ∙ none in
    let behind : e ≡ entry_behind w.entries e.caller e.event = subst (λ (x : IssueNow). e ≡ entry_behind x.entries e.caller e.event) (sym view) is in
    record {
      running = running;
      stands = subst (λ (h : Option Halt). IsIssueNow (issue_of w m h issue place)) running stands;
      place_is = ap (λ (x : Entry). x.place) behind;
      own = ap (λ (x : Entry). x.own) behind;
      event = subst (λ (x : IssueNow). IsEventOf x.fixed.participants e.event) (sym view) event;
      fits = subst (HasPlace e.event) (sym view) fits;
    }

-- the issue was halted by the entry
pub was-halted : (w : WorkView) (m : Replicas) (halt : Option Halt) (issue place : ℕ) (i : IssueNow) (e : Entry) (m' x : Replicas) → issue_of w m halt issue place ≡ i → i.halt ≡ None
    → e ≡ entry_behind i.entries e.caller e.event → NoneLeft e m m' → x ≡ all_wiped m'
    → WasHalted e.caller e.event i (issue_of w x (Some (record { caller = e.caller; own = e.own; event = e.event })) issue place)
was-halted w m halt issue place i e m' x view none is left wiped =
    let nodes : m ≡ i.nodes = ap (λ (y : IssueNow). y.nodes) view in
    let all : NoneLeft e m x = subst (NoneLeft e m) (sym wiped) (none-left-wiped e m m' left) in
    let behind : NoneLeft (entry_behind i.entries e.caller e.event) m x = subst (λ (y : Entry). NoneLeft y m x) is all in
    record {
      running = none;
      halt = ap (λ (own : ℕ). Some (halt_of e.caller own e.event)) (ap (λ (y : Entry). y.own) is);
      entries = ap (λ (y : IssueNow). y.entries) view;
      left = subst (λ (n : Replicas). NoneLeft (entry_behind i.entries e.caller e.event) n x) nodes behind;
    }
