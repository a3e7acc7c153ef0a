-- What an entry keeps of the book, and what holds of a machine after it.
use Rattle.std.proofs.Common.{◌≡◌, ◌≢◌, ℕ, zero, suc, ◌+◌, ◌==◌, ◌<◌, ◌≤◌, Bool, true, false, ltb, List, [], ◌∷◌, length, get_or, set, All, Option, None, Some, inl, inr, refl, sym, ap, subst, ◌∙◌, arith, get_or-set_other, get_or-set_same}
use Rattle.std.specs.List.{AllByRecursion, slice_get}
use Rattle.std.proofs.Math.ListN.{length-set}
use Rattle.std.proofs.lemmas.Bool.{cases_eq, false≢true}
use Rattle.std.proofs.lemmas.Option.{get_or_from_slice_get, slice_get_cases, slice_get_within}
use Rattle.std.proofs.lemmas.List.Elements.{All-get_or, All-nil, All-replicate, All-set, All-weaker, recursion_from_All}
use Rattle.mkt_base.specs.declared.event.Entry.{Entry}
use Rattle.mkt_base.specs.declared.event.Event.{Event}
use Rattle.mkt_base.specs.declared.event.Event.TheVariants as events
use Rattle.mkt_base.specs.declared.journal.NodeState.{NodeState}
use Rattle.mkt_base.specs.declared.journal.NodeState.TheVariants.{Lost, Joining}
use Rattle.mkt_base.specs.declared.order.Order.{Order}
use Rattle.mkt_base.specs.declared.order.Side.{Side}
use Rattle.mkt_base.specs.declared.order.Spot.{Spot}
use Rattle.mkt_base.specs.declared.units.Participant.{Participant}
use Rattle.node_rules.specs.Nodes.{after_event, all_caught, caught, crashed, is_lost, joined, joins, node_step, piece, state_at}
use Rattle.book_law.specs.BookView.{is_of}
use Rattle.book_law.proofs.Pairs.{Pairs, pairs-from_AllPairs, weaken}
use Rattle.session_phase.specs.declared.session.Boundary.{Boundary}
use Rattle.session_phase.specs.declared.session.Session.{Session}
use Rattle.rules_file.specs.Rules.{issues_in}
use Rattle.rules_file.specs.declared.issue.IssueRules.{IssueRules}
use Rattle.rules_file.specs.declared.rules.Rules.{Rules}
use Rattle.issue_book.specs.IssueView.{IsIssue, IssueView, in_state, terms_of}
use Rattle.issue_book.specs.Quoting.{serve}
use Rattle.issue_book.specs.Sessions.{at_boundary, step_at}
use Rattle.issue_book.specs.State.{State, Terms, start}
use Rattle.issue_machine.specs.Answering.{Replied, order_of}
use Rattle.issue_machine.specs.Clock.{AllDone, BoundaryDue, Due, QuoteDue, due_steps, next_due, take_clock}
use Rattle.issue_machine.specs.Journal.{MachineView, MayStep, own_after, stepped, no_own}
use Rattle.issue_machine.specs.Standing.{AwaitsFinish, IsMachine, IsOlder, MayTake}
use Rattle.issue_machine.specs.Step.{event_step, nodes_behind, step}
use Rattle.issue_machine.proofs.DueLemmas.{step_by}
use Rattle.issue_machine.proofs.MoveLemmas.{Keeps, KeepsBook, OfEach, WasBoundary, WasServed, book-of, boundary-keeps, of-each, of-either, served-keeps, take_cancel-keeps, take_change-keeps, take_order-keeps}
use Rattle.issue_machine.proofs.OrderLemmas.{is-callers, is-own}

-- ---- the next finish

pub finish-kept : (sessions : List Session) (s u : State) → Keeps OfEach of-each s u → AwaitsFinish sessions s.now s.phase → AwaitsFinish sessions u.now u.phase
finish-kept sessions s u h finish = subst (λ (n : ℕ). AwaitsFinish sessions n u.phase) (sym h.now) (subst (AwaitsFinish sessions s.now) (sym h.phase) finish)

pub finish-moved : (v new : IssueView) (u : State) → new ≡ in_state u v → Keeps OfEach of-each v.state u → AwaitsFinish v.terms.sessions v.state.now v.state.phase → AwaitsFinish v.terms.sessions new.state.now new.state.phase
finish-moved v new u is h finish = subst (λ (x : IssueView). AwaitsFinish v.terms.sessions x.state.now x.state.phase) (sym is) (finish-kept v.terms.sessions v.state u h finish)

-- ---- the book after an event

module _ (P : Order → Type 0) (keyed : (o : Order) (left : ℕ) → P o → P (record o { left = left })) where
  book-same : (s : State) → KeepsBook P keyed s s
  book-same s = record { entries = refl; nodes = refl; orders = λ all. all }

  book-then : (s u w : State) → KeepsBook P keyed s u → KeepsBook P keyed u w → KeepsBook P keyed s w
  book-then s u w h k = record { entries = k.entries ∙ h.entries; nodes = k.nodes ∙ h.nodes; orders = λ all. k.orders (h.orders all) }

  due-keeps : (most : ℕ) (t : Terms) (to : ℕ) (left : List (ℕ × Boundary)) (s : State) → KeepsBook P keyed s (due_steps most t to left s).move.state
  due-keeps zero t to left s = book-same s
  due-keeps (suc most) t to left s = by (λ more u. due-keeps most t to more u) (next_due to left s.quote)
    where
      by : ((more : List (ℕ × Boundary)) (u : State) → KeepsBook P keyed u (due_steps most t to more u).move.state) → (d : Due) → KeepsBook P keyed s (step_by (due_steps most t to) t left s d).move.state
      by rest AllDone = book-same s
      by rest (BoundaryDue at boundary more) =
          let u : State = (step_at at (at_boundary t boundary) s).state in
          let was : WasBoundary P keyed at boundary s u = boundary-keeps P keyed t at boundary s in
          book-then s u (due_steps most t to more u).move.state was.book (rest more u)
      by rest (QuoteDue at q) =
          let u : State = (step_at at (serve t q) s).state in
          let was : WasServed P keyed at s u = served-keeps P keyed t at q s in
          book-then s u (due_steps most t to left u).move.state was.book (rest left u)

  clock-keeps : (t : Terms) (to : ℕ) (s : State) → KeepsBook P keyed s (take_clock t to s).move.state
  clock-keeps t to s =
      let h = due-keeps _ t to _ s in
      of-either (λ (r : Replied). KeepsBook P keyed s r.move.state) (ltb to s.now) _ _ (book-same s) (record { entries = h.entries; nodes = h.nodes; orders = h.orders })

  module _ (e : Entry) (fresh : (participant : Participant) (side : Side) (spot : Spot) (qty : ℕ) → P (order_of e participant side spot qty))
      (anew : (o : Order) (spot : Spot) (qty : ℕ) → P o → P (record o { place = e.place; spot = spot; left = qty })) where
    pub event-keeps : (t : Terms) (event : Event) (s : State) → KeepsBook P keyed s (event_step t e event s).move.state
    event-keeps t (events.Order participant side kind qty) s = book-of P keyed s _ (take_order-keeps P keyed e fresh t participant side kind qty s)
    event-keeps t (events.Change participant target kind qty) s = book-of P keyed s _ (take_change-keeps P keyed e anew t participant target kind qty s)
    event-keeps t (events.Cancel participant target) s = book-of P keyed s _ (take_cancel-keeps P keyed e anew t participant target s)
    event-keeps t (events.Clock at) s = clock-keeps t at s
    event-keeps t (events.Crash node) s =
        of-either (λ (r : Replied). KeepsBook P keyed s r.move.state) (is_lost (state_at s.nodes node)) _ _ (book-same s) (book-same s)
    event-keeps t (events.Rejoin node) s =
        of-either (λ (r : Replied). KeepsBook P keyed s r.move.state) (is_lost (state_at s.nodes node)) _ _ (book-same s) (book-same s)

-- ---- orders of earlier entries

-- the caller's next own number behind an entry, and the others'
own-next : (owns : List ℕ) (e : Entry) → slice_get owns e.caller.0 ≡ Some e.own → get_or (own_after owns e) e.caller.0 0 ≡ e.own + 1
own-next owns e own = get_or-set_same owns e.caller.0 (e.own + 1) 0 (slice_get_within owns e.caller.0 e.own own)

own-other : (owns : List ℕ) (e : Entry) (i : ℕ) → i ≢ e.caller.0 → get_or (own_after owns e) i 0 ≡ get_or owns i 0
own-other owns e i other = get_or-set_other owns e.caller.0 i (e.own + 1) 0 other

module _ (n : ℕ) (owns : List ℕ) (e : Entry) (at : e.place ≡ n) (own : slice_get owns e.caller.0 ≡ Some e.own) where
  abbrev pub Older : Order → Type 0
  Older = IsOlder (n + 1) (own_after owns e)

  older-keyed : (o : Order) (left : ℕ) → Older o → Older (record o { left = left })
  older-keyed o left h = record { place = h.place; own = h.own }

  older-fresh : (participant : Participant) (side : Side) (spot : Spot) (qty : ℕ) → Older (order_of e participant side spot qty)
  older-fresh participant side spot qty = record { place = omega (arith, at); own = omega (arith, own-next owns e own) }

  older-anew : (o : Order) (spot : Spot) (qty : ℕ) → Older o → Older (record o { place = e.place; spot = spot; left = qty })
  older-anew o spot qty h = record { place = omega (arith, at); own = h.own }

  older-still : (o : Order) → IsOlder n owns o → Older o
  older-still o h = record {
    place = omega (arith, h.place);
    own = elim (cases_eq o.caller.0 e.caller.0) [
      | inl same ↦ subst (λ (i : ℕ). o.own < get_or (own_after owns e) i 0) (sym same)
          (let here : o.own < get_or owns e.caller.0 0 = subst (λ (i : ℕ). o.own < get_or owns i 0) same h.own in
          omega (arith, own-next owns e own, get_or_from_slice_get owns e.caller.0 e.own 0 own, here))
      | inr other ↦ omega (arith, h.own, own-other owns e o.caller.0 other)
    ];
  }

  pub older-after : (t : Terms) (event : Event) (s : State) → All (IsOlder n owns) s.orders → All Older (event_step t e event s).move.state.orders
  older-after t event s all =
      let kept : KeepsBook Older older-keyed s (event_step t e event s).move.state = event-keeps Older older-keyed e older-fresh older-anew t event s in
      kept.orders (All-weaker (IsOlder n owns) Older older-still s.orders all)

pub entries-after : (t : Terms) (e : Entry) (event : Event) (s : State) → (event_step t e event s).move.state.entries ≡ s.entries
entries-after t e event s =
    let kept : KeepsBook OfEach of-each s (event_step t e event s).move.state = event-keeps OfEach of-each e (λ participant side spot qty. tt) (λ o spot qty h. tt) t event s in
    kept.entries

pub nodes-after : (t : Terms) (e : Entry) (event : Event) (s : State) → (event_step t e event s).move.state.nodes ≡ s.nodes
nodes-after t e event s =
    let kept : KeepsBook OfEach of-each s (event_step t e event s).move.state =
    event-keeps OfEach of-each e (λ participant side spot qty. tt) (λ o spot qty h. tt) t event s in
    kept.nodes

-- ---- an entry that may come

few-places : (k n : ℕ) (os : List Order) → k ≤ n → Pairs (λ a b. a.place < b.place) os → AllByRecursion (λ o. k ≤ o.place) os → AllByRecursion (λ o. o.place < n) os → length os + k ≤ n
few-places k n [] some rise from upto = omega (arith, some)
few-places k n (o ∷ os) some rise from upto =
    let rest : length os + (o.place + 1) ≤ n =
    few-places (o.place + 1) n os (omega (arith, upto.0)) rise.1 (weaken (λ x. o.place < x.place) (λ x. o.place + 1 ≤ x.place) (λ x h. omega (arith, h)) os rise.0) upto.1 in
    omega (arith, rest, from.0)

from-none : (os : List Order) → AllByRecursion (λ o. 0 ≤ o.place) os
from-none [] = tt
from-none (o ∷ os) = (omega arith, from-none os)

pub may-take : (m : MachineView) (e : Entry) → IsMachine m → IsIssue m.issue → MayStep m e → MayTake m.issue e
may-take m e is stands may =
    let os : List Order = m.issue.state.orders in
    let n : ℕ = m.issue.state.entries in
    let at : e.place ≡ n = may.entry.place in
    let number : get_or m.next_own e.caller.0 0 ≡ e.own = get_or_from_slice_get m.next_own e.caller.0 e.own 0 may.entry.own in
    let older : All (λ o. o.place < n) os = All-weaker (IsOlder n m.next_own) (λ o. o.place < n) (λ o h. h.place) os is.older in
    let few : length os + 0 ≤ n =
    few-places 0 n os (omega arith) (pairs-from_AllPairs (λ a b. a.place < b.place) os stands.by_place) (from-none os) (recursion_from_All (λ o. o.place < n) os older) in
    record {
      last = All-weaker (IsOlder n m.next_own) (λ o. o.place < e.place) (λ o h. omega (arith, h.place, at)) os is.older;
      pair = All-weaker (IsOlder n m.next_own) (λ o. is_of e.caller e.own o ≡ false) (λ o h. not-its (is_of e.caller e.own o) o refl h number) os is.older;
      room = omega (arith, few, may.room);
    }
  where
    not-its : (b : Bool) (o : Order) → is_of e.caller e.own o ≡ b → IsOlder m.issue.state.entries m.next_own o → get_or m.next_own e.caller.0 0 ≡ e.own → b ≡ false
    not-its false o t h number = refl
    not-its true o t h number =
        let same : e.caller.0 ≡ o.caller.0 = is-callers e.caller e.own o t in
        let here : o.own < get_or m.next_own e.caller.0 0 = subst (λ (i : ℕ). o.own < get_or m.next_own i 0) (sym same) h.own in
        absurd (omega (arith, here, number, is-own e.caller e.own o t))

-- ---- the machine after an entry

-- its caller is one of those that are counted, and its own number is not above the number of entries
pub caller-within : (m : MachineView) (e : Entry) → IsMachine m → MayStep m e → e.caller.0 < 17
caller-within m e is may = omega (arith, slice_get_within m.next_own e.caller.0 e.own may.entry.own, is.callers)

pub own-few : (m : MachineView) (e : Entry) → IsMachine m → MayStep m e → e.own ≤ m.issue.state.entries
own-few m e is may =
    let inside : e.caller.0 < length m.next_own = slice_get_within m.next_own e.caller.0 e.own may.entry.own in
    let few : get_or m.next_own e.caller.0 0 ≤ m.issue.state.entries = All-get_or (λ own. own ≤ m.issue.state.entries) m.next_own e.caller.0 0 inside is.counted in
    omega (arith, few, get_or_from_slice_get m.next_own e.caller.0 e.own 0 may.entry.own)

-- the issue after the event, and with the entry counted
abbrev pub after_event_of : MachineView → Entry → State
after_event_of m e = (event_step m.issue.terms e e.event m.issue.state).move.state

abbrev pub counting : List NodeState → State → State
counting nodes s = record s { nodes = nodes; entries = s.entries + 1 }

abbrev pub machine_of : MachineView → IssueView → ℕ → Entry → MachineView
machine_of m new i e = record { issue = new; participants = m.participants; next_own = set m.next_own i (e.own + 1) }

machine-counted : (m : MachineView) (e : Entry) → IsMachine m → MayStep m e → AwaitsFinish m.issue.terms.sessions (after_event_of m e).now (after_event_of m e).phase
    → (nodes : List NodeState) → length nodes ≡ 3 → IsMachine (machine_of m (in_state (counting nodes (after_event_of m e)) m.issue) e.caller.0 e)
machine-counted m e is may finish nodes three =
    let n : ℕ = m.issue.state.entries in
    let u : State = after_event_of m e in
    let same : u.entries ≡ n = entries-after m.issue.terms e e.event m.issue.state in
    let own : e.own ≤ n = own-few m e is may in
    record {
      few = omega (arith, same, may.room);
      bound = is.bound;
      few_participants = is.few_participants;
      callers = length-set m.next_own e.caller.0 (e.own + 1) ∙ is.callers;
      counted = All-set (λ x. x ≤ u.entries + 1) m.next_own e.caller.0 (e.own + 1) (omega (arith, own, same))
          (All-weaker (λ x. x ≤ n) (λ x. x ≤ u.entries + 1) (λ x h. omega (arith, h, same)) m.next_own is.counted);
      older = subst (λ (k : ℕ). All (IsOlder (k + 1) (own_after m.next_own e)) u.orders) (sym same)
          (older-after n m.next_own e may.entry.place may.entry.own m.issue.terms e.event m.issue.state is.older);
      finish = finish;
      nodes = three;
    }

-- what the calls in a row leave
counted-issue : (m : MachineView) (e : Entry) (mid new : IssueView) (nodes : List NodeState) → mid ≡ in_state (after_event_of m e) m.issue → new ≡ in_state (counting nodes mid.state) mid
    → new ≡ in_state (counting nodes (after_event_of m e)) m.issue
counted-issue m e mid new nodes was is = is ∙ ap (λ (v : IssueView). in_state (counting nodes v.state) v) was

pub machine-after : (m : MachineView) (e : Entry) (mid new : IssueView) (nodes : List NodeState) (i : ℕ) → IsMachine m → MayStep m e → i ≡ e.caller.0 → length nodes ≡ 3
    → mid ≡ in_state (after_event_of m e) m.issue → new ≡ in_state (counting nodes mid.state) mid → AwaitsFinish m.issue.terms.sessions mid.state.now mid.state.phase
    → IsMachine (machine_of m new i e)
machine-after m e mid new nodes i is may same three was now finish =
    let ends : AwaitsFinish m.issue.terms.sessions (after_event_of m e).now (after_event_of m e).phase =
    subst (λ (v : IssueView). AwaitsFinish m.issue.terms.sessions v.state.now v.state.phase) was finish in
    subst (λ (k : ℕ). IsMachine (machine_of m new k e)) (sym same)
    (subst (λ (v : IssueView). IsMachine (machine_of m v e.caller.0 e)) (sym (counted-issue m e mid new nodes was now)) (machine-counted m e is may ends nodes three))

pub stepped-is : (m : MachineView) (e : Entry) (mid new : IssueView) (nodes : List NodeState) (i : ℕ) → i ≡ e.caller.0 → nodes ≡ nodes_behind e m.issue.state
    → mid ≡ in_state (after_event_of m e) m.issue → new ≡ in_state (counting nodes mid.state) mid → machine_of m new i e ≡ stepped m e
unfolding step
stepped-is m e mid new nodes i same behind was now =
    ap (λ (k : ℕ). machine_of m new k e) same ∙ ap (λ (v : IssueView). machine_of m v e.caller.0 e) (counted-issue m e mid new nodes was now)
    ∙ ap (λ (ns : List NodeState). machine_of m (in_state (counting ns (after_event_of m e)) m.issue) e.caller.0 e) behind

-- there are three nodes after a step where there were before it
length-crashed : (event : Event) (nodes : List NodeState) → length nodes ≡ 3 → length (crashed event nodes) ≡ 3
length-crashed (events.Order participant side kind qty) nodes three = three
length-crashed (events.Change participant target kind qty) nodes three = three
length-crashed (events.Cancel participant target) nodes three = three
length-crashed (events.Clock at) nodes three = three
length-crashed (events.Crash node) nodes three = length-set nodes node Lost ∙ three
length-crashed (events.Rejoin node) nodes three = three

length-joined : (n : ℕ) (node : Option ℕ) (nodes : List NodeState) → length nodes ≡ 3 → length (joined n node nodes) ≡ 3
length-joined n None nodes three = three
length-joined n (Some k) nodes three = length-set nodes k (caught piece n (Joining 0)) ∙ three

length-event : (event : Event) (n : ℕ) (nodes : List NodeState) → length nodes ≡ 3 → length (after_event event n nodes) ≡ 3
unfolding after_event
length-event event n nodes three = length-joined (n + 1) (joins event nodes) (crashed event nodes) (length-crashed event nodes three)

three-caught : (event : Event) (n : ℕ) (nodes : List NodeState) → length (all_caught event n nodes) ≡ 3
unfolding all_caught
three-caught event n nodes = refl

pub length-node_step : (n caller : ℕ) (event : Event) (nodes : List NodeState) → length nodes ≡ 3 → length (node_step n caller event nodes) ≡ 3
unfolding node_step
length-node_step n caller event nodes three =
    of-either (λ (ns : List NodeState). length ns ≡ 3) (caller == 0) _ _ (length-event event n nodes three) (length-event event n (all_caught event n nodes) (three-caught event n nodes))

-- the nodes that were computed from what the floor told are those of the rules
pub nodes-computed : (s : State) (e : Entry) (entries : ℕ) (nodes result : List NodeState) → entries ≡ s.entries → nodes ≡ s.nodes
    → result ≡ node_step entries e.caller.0 e.event nodes → result ≡ nodes_behind e s
nodes-computed s e entries nodes result at are is =
    is ∙ ap (λ (n : ℕ). node_step n e.caller.0 e.event nodes) at ∙ ap (λ (ns : List NodeState). node_step s.entries e.caller.0 e.event ns) are

pub entries-few : (m : MachineView) (e : Entry) (mid : IssueView) → IsMachine m → MayStep m e → mid ≡ in_state (after_event_of m e) m.issue → mid.state.entries < 100000000
entries-few m e mid is may was =
    let same : mid.state.entries ≡ (after_event_of m e).entries = ap (λ (v : IssueView). v.state.entries) was in
    omega (arith, same, entries-after m.issue.terms e e.event m.issue.state, may.room, is.bound)

-- ---- the machine before its first entry

start-machine : (t : Terms) (capacity participants : ℕ) → capacity ≤ 100000000 → participants ≤ 64
    → IsMachine (record { issue = record { terms = t; capacity = capacity; state = start t }; participants = participants; next_own = no_own })
start-machine t capacity participants bound few = record {
  few = omega arith;
  bound = bound;
  few_participants = few;
  callers = refl;
  counted = All-replicate (λ own. own ≤ 0) 17 0 (omega arith);
  older = All-nil (IsOlder 0 no_own);
  finish = λ trading. absurd (false≢true trading);
  nodes = refl;
}

pub machine-made : (rules : Rules) (i capacity participants : ℕ) (made : IssueView) → i < length (issues_in rules) → capacity ≤ 100000000 → participants ≤ 64
    → ((r : IssueRules) → slice_get (issues_in rules) i ≡ Some r → made ≡ record { terms = terms_of rules r; capacity = capacity; state = start (terms_of rules r) })
    → IsMachine (record { issue = made; participants = participants; next_own = no_own })
machine-made rules i capacity participants made inside bound few is = elim (slice_get_cases (issues_in rules) i).1 [
  | inl found ↦
      subst (λ (v : IssueView). IsMachine (record { issue = v; participants = participants; next_own = no_own })) (sym (is found.0 found.2))
      (start-machine (terms_of rules found.0) capacity participants bound few)
  | inr past ↦ absurd (omega (arith, past.0))
]

-- the entry is counted
pub counted-one : (m : MachineView) (e : Entry) → (stepped m e).issue.state.entries ≡ m.issue.state.entries + 1
unfolding step
counted-one m e = ap (λ (n : ℕ). n + 1) (entries-after m.issue.terms e e.event m.issue.state)
