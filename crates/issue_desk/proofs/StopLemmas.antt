-- What an event makes of a desk: what it has made and seen, and its first stop.
use Rattle.std.proofs.Common.{◌≡◌, ℕ, ◌+◌, ◌<◌, ◌≤◌, Bool, true, false, ◌||◌, List, [], ◌∷◌, ◌++◌, length, map, take, Option, Some, None, Result, Ok, Err, refl, sym, ap, subst, ◌∙◌, arith, append-nil}
use Rattle.std.specs.Prelude.{is_some}
use Rattle.std.proofs.lemmas.Bool.{both_ways}
use Rattle.std.proofs.lemmas.List.{map-append, take-append-le, take_all}
use Rattle.std.proofs.lemmas.Option.{same_Some}
use Rattle.mkt_base.specs.Desk.{WasSubmitted, made_with, stop_with}
use Rattle.mkt_base.specs.declared.event.Entry.{Entry}
use Rattle.mkt_base.specs.declared.event.Event.{Event}
use Rattle.mkt_base.specs.declared.event.Reply.{Reply}
use Rattle.mkt_base.specs.declared.journal.Halt.{Halt}
use Rattle.mkt_base.specs.declared.journal.Stopped.{Stopped}
use Rattle.mkt_base.specs.declared.journal.TurnStop.{TurnStop}
use Rattle.mkt_base.specs.declared.journal.TurnStop.TheVariants.{NoNode, JournalFull}
use Rattle.node_rules.specs.Nodes.{up}
use Rattle.turn_cell.specs.Marks.{Begins, entries_in, halt_in}
use Rattle.turn_cell.specs.Passes.{Holds, Known}
use Rattle.turn_writer.specs.Writing.{asks}
use Rattle.issue_machine.specs.History.{nodes_after}
use Rattle.issue_journal.specs.Issue.{Fixed}
use Rattle.issue_journal.specs.Turned.{entry_behind}
use Rattle.issue_server.specs.Served.{HasAnswered, HasTakenTurn, IsJournalSeen, StaysHalted, caller_of}
use Rattle.issue_server.proofs.SeenLemmas.{entries_in-append}
use Rattle.issue_desk.specs.Desk.{DeskNow, IsDesk, WasFull, events_of, is_no_node, state_of}
use Rattle.issue_desk.specs.Sound.{or-left, or-right}
use Rattle.issue_desk.proofs.GrownLemmas.{HasGrown, entries-grown, halt-grown, seen-grown}

some-halt : (o : Option Halt) → is_some o ≡ true → (h : Halt) × (o ≡ Some h)
some-halt None is = absurd (cc)
some-halt (Some h) is = (h, refl)

two-causes : true ≡ false → ⊥
two-causes is = cc

-- a desk that has ended has seen a halt
pub ended-halt : (d : DeskNow) → IsDesk d → (state_of d).ended ≡ true → (h : Halt) × (halt_in d.pass.seen ≡ Some h)
ended-halt d desk ended = some-halt (halt_in d.pass.seen) (by (is_some (halt_in d.pass.seen)) refl d.stop refl ended)
  where
    by : (seen : Bool) → is_some (halt_in d.pass.seen) ≡ seen → (stop : Option Stopped) → d.stop ≡ stop → (seen || is_no_node stop) ≡ true → is_some (halt_in d.pass.seen) ≡ true
    by true e stop f is = e
    by false e None f is = absurd (cc)
    by false e (Some s) f is = cause s.cause refl is
      where
        cause : (c : TurnStop) → s.cause ≡ c → is_no_node (Some (record { event = s.event; cause = c })) ≡ true → is_some (halt_in d.pass.seen) ≡ true
        cause NoNode same so = desk.no_node s.event (f ∙ ap (λ (c : TurnStop). Some (record { event = s.event; cause = c })) same)
        cause (JournalFull n l c) same so = absurd (cc)

-- so it has ended exactly where it has seen one
pub ended-is : (d : DeskNow) → IsDesk d → (state_of d).ended ≡ is_some (halt_in d.pass.seen)
ended-is d desk = by (is_some (halt_in d.pass.seen)) (is_no_node d.stop) refl refl
  where
    by : (a b : Bool) → is_some (halt_in d.pass.seen) ≡ a → is_no_node d.stop ≡ b → (a || b) ≡ a
    by true b e f = refl
    by false false e f = refl
    by false true e f = absurd (let h = ended-halt d desk (or-right (is_some (halt_in d.pass.seen)) (is_no_node d.stop) f) in both_ways (is_some (halt_in d.pass.seen)) e (ap is_some h.1))

module _ (p q : Known Fixed) (event : Event) where
  abbrev event_in_entry : Entry → Event
  event_in_entry e = e.event

  -- what was made, by the answer
  made-more : (answer : Result Reply TurnStop) → HasAnswered event answer p q → (more : List Entry) × (entries_in q.made ≡ entries_in p.made ++ more)
  made-more (Ok reply) h = (entry_behind h.journal (caller_of p) event ∷ [], ap entries_in h.made ∙ entries_in-append p.made _)
  made-more (Err NoNode) h = ([], h.made ∙ sym (append-nil (entries_in p.made)))
  made-more (Err (JournalFull n l c)) h = ([], ap entries_in h.made ∙ sym (append-nil (entries_in p.made)))

  pub grown-by : (answer : Result Reply TurnStop) → HasTakenTurn p q → Begins p.seen q.seen → IsJournalSeen q → HasAnswered event answer p q → HasGrown p q
  grown-by answer turn grows whole answered =
      let made = made-more answer answered in
      record {
        caller = ap (λ (k : Known Fixed). k.caller) turn;
        fixed = ap (λ (k : Known Fixed). k.fixed) turn;
        rest = grows.0;
        seen = grows.1;
        starts = grows.2;
        whole = whole;
        more = made.0;
        made = made.1;
      }

  events-made : (answer : Result Reply TurnStop) → HasAnswered event answer p q → events_of q ≡ made_with (events_of p) event answer
  events-made (Ok reply) h = ap (map event_in_entry) (ap entries_in h.made ∙ entries_in-append p.made _) ∙ map-append event_in_entry (entries_in p.made) (entry_behind h.journal (caller_of p) event ∷ [])
  events-made (Err NoNode) h = ap (map event_in_entry) h.made
  events-made (Err (JournalFull n l c)) h = ap (map event_in_entry) (ap entries_in h.made)

module _ (d : DeskNow) (q : Known Fixed) (event : Event) (answer : Result Reply TurnStop) (desk : IsDesk d) (turn : HasTakenTurn d.pass q) (grows : Begins d.pass.seen q.seen) (whole : IsJournalSeen q) (holds : Holds q.seen q)
    (answered : HasAnswered event answer d.pass q) (halted : StaysHalted answer d.pass q) where
  grown : HasGrown d.pass q
  grown = grown-by d.pass q event answer turn grows whole answered

  after : DeskNow
  after = record { pass = q; stop = stop_with d.stop event answer }

  no-node-halt : (a : Result Reply TurnStop) → HasAnswered event a d.pass q → a ≡ Err NoNode → is_some (halt_in q.seen) ≡ true
  no-node-halt (Ok reply) h is = absurd (cc)
  no-node-halt (Err NoNode) h is = ap is_some h.halted
  no-node-halt (Err (JournalFull n l c)) h is = absurd (cc)

  pub submitted : WasSubmitted event answer (state_of d) (state_of (record { pass = q; stop = stop_with d.stop event answer }))
  submitted = record {
    made = events-made d.pass q event answer answered;
    stop = refl;
    seen = seen-grown d.pass q grown;
    halt = halt-grown d.pass q grown;
    quiet = λ ended. let h = ended-halt d desk ended in (halted h.0 h.1).0;
    no_node = λ is. or-left _ _ (no-node-halt answer answered is);
    ended = λ ended. let h = ended-halt d desk ended in or-left _ _ (ap is_some (halt-grown d.pass q grown h.0 h.1));
  }

  -- ---- the desk afterwards

  still-seen : is_some (halt_in d.pass.seen) ≡ true → is_some (halt_in q.seen) ≡ true
  still-seen is = let h = some-halt (halt_in d.pass.seen) is in ap is_some (halt-grown d.pass q grown h.0 h.1)

  front : (n : ℕ) → n ≤ length (entries_in d.pass.seen) → take n (entries_in q.seen) ≡ take n (entries_in d.pass.seen)
  front n within = ap (take n) (entries-grown d.pass q grown) ∙ take-append-le n (entries_in d.pass.seen) (entries_in grown.rest) within

  abbrev stopped-by : Event → TurnStop → Stopped
  stopped-by e c = record { event = e; cause = c }

  abbrev stop-is : Event → TurnStop → Option Stopped
  stop-is e c = Some (stopped-by e c)

  no-node : (stop : Option Stopped) → d.stop ≡ stop → (a : Result Reply TurnStop) → HasAnswered event a d.pass q → (e : Event) → stop_with stop event a ≡ stop-is e NoNode → is_some (halt_in q.seen) ≡ true
  no-node (Some s) was a h e is = still-seen (desk.no_node e (was ∙ is))
  no-node None was (Ok reply) h e is = absurd (cc)
  no-node None was (Err NoNode) h e is = ap is_some h.halted
  no-node None was (Err (JournalFull n l c)) h e is = absurd (two-causes (sym (ap is_no_node is)))

  full : (stop : Option Stopped) → d.stop ≡ stop → (a : Result Reply TurnStop) → HasAnswered event a d.pass q → (e : Event) (n l c : ℕ) → stop_with stop event a ≡ stop-is e (JournalFull n l c) → WasFull e n q
  full (Some s) was a h e n l c is =
      let before : WasFull e n d.pass = desk.full e n l c (was ∙ is) in
      record {
        seen = let there = before.seen in let more = seen-grown d.pass q grown in omega (arith, there, more);
        fixed = before.fixed;
        fixed_is = grown.fixed ∙ before.fixed_is;
        full = subst (λ (es : List Entry). before.fixed.capacity < n + 1 + (up (nodes_after es) + asks e)) (sym (front n before.seen)) before.full;
      }
  full None was (Ok reply) h e n l c is = absurd (cc)
  full None was (Err NoNode) h e n l c is = absurd (two-causes (ap is_no_node is))
  full None was (Err (JournalFull m k b)) h e n l c is =
      let event_same : event ≡ e = event-at is in
      let n_same : m ≡ n = entries-at is in
      let all : n ≡ length (entries_in q.seen) = sym n_same ∙ h.entries_are in
      record {
        seen = omega (arith, all);
        fixed = h.fixed;
        fixed_is = grown.fixed ∙ h.fixed_is;
        full = subst (λ (x : Event). h.fixed.capacity < n + 1 + (up (nodes_after (take n (entries_in q.seen))) + asks x)) event_same
            (subst (λ (es : List Entry). h.fixed.capacity < n + 1 + (up (nodes_after es) + asks event)) (sym (take_all n (entries_in q.seen) (omega (arith, all))))
            (subst (λ (k : ℕ). h.fixed.capacity < k + 1 + (up (nodes_after (entries_in q.seen)) + asks event)) n_same
            (subst (λ (k : ℕ). h.fixed.capacity < m + 1 + k) h.losses_are (subst (λ (x : ℕ). x < m + 1 + k) h.capacity_is h.full))));
      }
    where
      event-at : stop-is event (JournalFull m k b) ≡ stop-is e (JournalFull n l c) → event ≡ e
      event-at same = ap (λ (s : Stopped). s.event) (same_Some (stopped-by event (JournalFull m k b)) (stopped-by e (JournalFull n l c)) same)

      entries-at : stop-is event (JournalFull m k b) ≡ stop-is e (JournalFull n l c) → m ≡ n
      entries-at same = first (ap (λ (s : Stopped). s.cause) (same_Some (stopped-by event (JournalFull m k b)) (stopped-by e (JournalFull n l c)) same))
        where
          first : JournalFull m k b ≡ JournalFull n l c → m ≡ n
          first equal = cc

  kept-some : (stop : Option Stopped) → is_some stop ≡ true → is_some (stop_with stop event answer) ≡ true
  kept-some None is = absurd (cc)
  kept-some (Some s) is = refl

  new-some : (stop : Option Stopped) (a : Result Reply TurnStop) → HasAnswered event a d.pass q → (h : Halt) → halt_in q.seen ≡ Some h → is_some (stop_with stop event a) ≡ true
  new-some (Some s) a h halt is = refl
  new-some None (Ok reply) h halt is = absurd (let none = h.running in cc)
  new-some None (Err NoNode) h halt is = refl
  new-some None (Err (JournalFull n l c)) h halt is = absurd (let none = h.running in cc)

  one : (a b : Halt) → Some a ≡ Some b → a ≡ b
  one a b same = cc

  stopped : (o : Option Halt) → halt_in d.pass.seen ≡ o → (h : Halt) → halt_in q.seen ≡ Some h → h.caller.0 ≡ q.caller → is_some (stop_with d.stop event answer) ≡ true
  stopped None none h is own = new-some d.stop answer answered h is
  stopped (Some first) some h is own =
      let same : first ≡ h = one first h (sym (halt-grown d.pass q grown first some) ∙ is) in
      kept-some d.stop (desk.stopped h (some ∙ ap (λ (k : Halt). Some k) same) (own ∙ grown.caller))

  -- the event of a halt that is the desk's own, and was not seen before
  own-new : (stop : Option Stopped) → d.stop ≡ stop → halt_in d.pass.seen ≡ None → (a : Result Reply TurnStop) → HasAnswered event a d.pass q → (h : Halt) (e : Event) → halt_in q.seen ≡ Some h → h.caller.0 ≡ d.pass.caller
      → stop_with stop event a ≡ stop-is e NoNode → e ≡ h.event
  own-new (Some s) was none a h halt e is own stop = absurd (let seen = desk.no_node e (was ∙ stop) in let gone = ap is_some none in cc)
  own-new None was none (Ok reply) h halt e is own stop = absurd (cc)
  own-new None was none (Err (JournalFull n l c)) h halt e is own stop = absurd (two-causes (sym (ap is_no_node stop)))
  own-new None was none (Err NoNode) h halt e is own stop =
      let same : h.halt ≡ halt = one h.halt halt (sym h.halted ∙ is) in
      let mine : h.halt.caller.0 ≡ d.pass.caller = ap (λ (k : Halt). k.caller.0) same ∙ own in
      sym (event-of stop) ∙ sym (h.by_this none mine) ∙ ap (λ (k : Halt). k.event) same
    where
      event-of : stop-is event NoNode ≡ stop-is e NoNode → event ≡ e
      event-of equal = ap (λ (s : Stopped). s.event) (same_Some (stopped-by event NoNode) (stopped-by e NoNode) equal)

  own-halt : (o : Option Halt) → halt_in d.pass.seen ≡ o → (h : Halt) (e : Event) → halt_in q.seen ≡ Some h → h.caller.0 ≡ q.caller → stop_with d.stop event answer ≡ stop-is e NoNode → e ≡ h.event
  own-halt None none h e is own stop = own-new d.stop refl none answer answered h e is (own ∙ grown.caller) stop
  own-halt (Some first) some h e is own stop =
      let same : first ≡ h = one first h (sym (halt-grown d.pass q grown first some) ∙ is) in
      let seen : halt_in d.pass.seen ≡ Some h = some ∙ ap (λ (k : Halt). Some k) same in
      desk.own h e seen (own ∙ grown.caller) (unchanged d.stop (desk.stopped h seen (own ∙ grown.caller)) ∙ stop)
    where
      unchanged : (s : Option Stopped) → is_some s ≡ true → s ≡ stop_with s event answer
      unchanged None none = absurd (cc)
      unchanged (Some s) so = refl

  pub desk-after : IsDesk (record { pass = q; stop = stop_with d.stop event answer })
  desk-after = record {
    gateway = subst (λ (n : ℕ). (1 ≤ n) × (n ≤ 16)) (sym grown.caller) desk.gateway;
    fixed = ap is_some grown.fixed ∙ desk.fixed;
    holds = holds;
    no_node = λ e is. no-node d.stop refl answer answered e is;
    full = λ e n l c is. full d.stop refl answer answered e n l c is;
    stopped = λ h is own. stopped (halt_in d.pass.seen) refl h is own;
    own = λ h e is own stop. own-halt (halt_in d.pass.seen) refl h e is own stop;
  }
