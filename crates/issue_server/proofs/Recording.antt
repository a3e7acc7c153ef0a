-- What the answer of an issue's turn says of the pass that took the turn.
use Rattle.std.proofs.Common.{◌≡◌, ◌≢◌, ℕ, ◌+◌, ◌<◌, ◌≤◌, List, [], ◌∷◌, ◌++◌, length, take, map, sym, refl, ap, ◌∙◌, subst, arith, append-nil, inl, inr}
use Rattle.std.specs.Prelude.{Option, Some, None, Result, Ok, Err}
use mathlib.Core.Logic.{dite}
use native.Mathlib.Decide.{dec_le}
use Rattle.mkt_base.specs.declared.event.Entry.{Entry}
use Rattle.mkt_base.specs.declared.event.Event.{Event}
use Rattle.mkt_base.specs.declared.event.Reply.{Reply}
use Rattle.mkt_base.specs.declared.journal.Halt.{Halt}
use Rattle.mkt_base.specs.declared.journal.TurnStop.{TurnStop}
use Rattle.mkt_base.specs.declared.journal.TurnStop.TheVariants.{NoNode, JournalFull}
use Rattle.mkt_base.specs.declared.units.Caller.{Caller}
use Rattle.turn_cell.specs.Marks.{added_to, entries_in, halt_in, marks_in, marks_of, own_mark, Begins, IsTurn}
use Rattle.turn_cell.specs.Passes.{Known, GoesOn, Holds, entered, left_with}
use Rattle.turn_cell.specs.declared.value.Mark.{Mark}
use Rattle.turn_cell.specs.declared.value.Mark.TheVariants.{Made, Ended}
use Rattle.turn_cell.proofs.Marks.{added_is, begins_trans, entries_in-made, halt_in-made}
use Rattle.issue_machine.specs.History.{entries_by, nodes_after}
use Rattle.turn_writer.specs.Losses.{losses_from}
use Rattle.turn_writer.specs.Writing.{asks, turn_entries}
use Rattle.node_rules.specs.Nodes.{up}
use Rattle.issue_journal.specs.Issue.{Fixed, IssueNow}
use Rattle.issue_journal.specs.Turned.{HasPlace, HasTurned, IsFull, TurnDone, WasHalted, entry_behind, halt_of, losses_after, with_turn}
use Rattle.issue_server.specs.Served.{GoesOnFrom, HadNoNode, HasAnswered, HasEntered, HasRoom, HasTakenTurn, HasTried, IsServed, StaysHalted, WasFull, caller_of}
use Rattle.issue_server.specs.declared.served.TryStop.{TryStop}
use Rattle.issue_server.specs.declared.served.TryStop.TheVariants.{Stop}
use Rattle.issue_server.proofs.SeenLemmas.{journal-seen, entries_in-append, entries_in-of, halt_in-front, halt_in-last, halt-of_others, losses-lost, marks_in-halted, marks_in-more}

-- the marks of an issue
abbrev pub marks_at : IssueNow → List Mark
marks_at i = marks_in i.entries i.halt

abbrev pub fixed_at : IssueNow → Fixed
fixed_at i = i.fixed

-- a turn of the caller has added something to the first list
abbrev pub Adds : Known Fixed → List Mark → List Mark → Type 0
Adds p before after = (added : List Mark) × (after ≡ before ++ added) × IsTurn p.caller (length (entries_in p.made)) added

-- an issue of which nothing was changed was given no mark
adds-nothing : (p : Known Fixed) (before after : List Mark) → after ≡ before → Adds p before after
adds-nothing p before after same = ([], same ∙ sym (append-nil before), tt)

-- what the turn made for its own caller, by what it added
made-by : (p : Known Fixed) (before after added : List Mark) → after ≡ before ++ added
    → (left_with (entered p before) after).made ≡ p.made ++ own_mark added
made-by p before after added is = ap (λ (l : List Mark). p.made ++ own_mark l) (added_is before added after is)

module _ (p : Known Fixed) (x : IssueNow) (goes : GoesOn marks_at fixed_at p x) where
  pub found : GoesOnFrom p x.entries
  found = record {
    between = entries_in goes.more.0;
    whole =
        sym (entries_in-made x.entries x.halt)
        ∙ (ap entries_in goes.more.1 ∙ entries_in-append p.seen goes.more.0);
    others = sym (entries_in-of p.caller goes.more.0) ∙ ap entries_in goes.more.3;
  }

  -- the caller's next own number by the journal, and by what the pass made
  pub own-is : length (entries_by p.caller x.entries) ≡ length (entries_in p.made)
  own-is =
      let by_marks : entries_in (marks_of p.caller (marks_at x)) ≡ entries_by p.caller (entries_in (marks_at x)) = entries_in-of p.caller (marks_at x) in
      let all : entries_in (marks_at x) ≡ x.entries = entries_in-made x.entries x.halt in
      ap length (sym (ap (entries_by p.caller) all) ∙ (sym by_marks ∙ ap entries_in goes.own.0))

  pub sees-from : Begins p.seen (marks_at x)
  sees-from = (goes.more.0, goes.more.1, goes.more.2)

  -- a halt that was not seen is of another caller
  halt-unseen : (h : Halt) → x.halt ≡ Some h → halt_in p.seen ≡ None → h.caller.0 ≢ p.caller
  halt-unseen h is none =
      halt-of_others p.caller p.seen (marks_at x) p.made sees-from goes.own_seen.0 goes.own.0 none h (halt_in-made x.entries x.halt ∙ is)

  -- a halt that was seen is the issue's, and nothing more is to be seen
  halted-is : (h : Halt) → halt_in p.seen ≡ Some h → x.halt ≡ Some h
  halted-is h seen = sym (halt_in-made x.entries x.halt) ∙ (ap halt_in goes.more.1 ∙ halt_in-front p.seen goes.more.0 h seen)

  all-seen : (h : Halt) → halt_in p.seen ≡ Some h → marks_at x ≡ p.seen
  all-seen h seen =
      let none : goes.more.0 ≡ [] = halt_in-last x.entries x.halt p.seen goes.more.0 h goes.more.1 seen in
      goes.more.1 ∙ (ap (λ (l : List Mark). p.seen ++ l) none ∙ append-nil p.seen)

  module _ (event : Event) (y : IssueNow) where
    abbrev pub e : Entry
    e = entry_behind x.entries (caller_of p) event

    abbrev pub after : Known Fixed
    after = left_with (entered p (marks_at x)) (marks_at y)

    -- the journal has room, where the turn did not answer that it has none
    room-for : (answer : Result Reply TurnStop) → x.halt ≡ None → (answer ≡ Err (JournalFull (length x.entries) (losses_after x event) x.fixed.capacity) → ⊥)
        → (x.halt ≡ None → (HasPlace event x → ⊥) → answer ≡ Err (JournalFull (length x.entries) (losses_after x event) x.fixed.capacity))
        → HasRoom x.fixed x.entries event
    room-for answer running other full =
        dite (dec_le (length x.entries + 1 + losses_after x event) x.fixed.capacity) (λ fits. fits) (λ small. absurd (other (full running small)))

    -- ---- the event was entered

    module _ (reply : Reply) (d : TurnDone (caller_of p) event reply x y) where
      abbrev added-losses : List Mark
      added-losses = map Made (losses_from (e.place + 1) (length (entries_by 0 x.entries)) d.losses)

      entered-marks : marks_at y ≡ marks_at x ++ Made e ∷ added-losses
      entered-marks =
          ap (λ (o : Option Halt). marks_in y.entries o) d.after
          ∙ (ap (λ (l : List Entry). marks_in l None) d.entries
          ∙ (marks_in-more x.entries (turn_entries e (length (entries_by 0 x.entries)) d.losses)
          ∙ ap (λ (o : Option Halt). marks_in x.entries o ++ Made e ∷ added-losses) (sym d.before)))

      entered-adds : Adds p (marks_at x) (marks_at y)
      entered-adds = (Made e ∷ added-losses, entered-marks, (refl, own-is, losses-lost (e.place + 1) (length (entries_by 0 x.entries)) d.losses))

      has-entered : HasRoom x.fixed x.entries event → HasEntered event reply p after
      has-entered room = record {
        fixed = x.fixed;
        fixed_is = sym goes.fixed_is;
        journal = x.entries;
        found = found;
        losses = d.losses;
        seen = entries_in-made y.entries y.halt ∙ d.entries;
        own = own-is;
        made = made-by p (marks_at x) (marks_at y) (Made e ∷ added-losses) entered-marks;
        reply_is = d.reply_is;
        running = halt_in-made y.entries y.halt ∙ d.after;
        room = room;
      }

    -- ---- nothing was entered

    module _ (same : y.entries ≡ x.entries) where
      seen-is : entries_in (marks_at y) ≡ x.entries
      seen-is = entries_in-made y.entries y.halt ∙ same

      found-again : GoesOnFrom p (entries_in (marks_at y))
      found-again = subst (λ (l : List Entry). GoesOnFrom p l) (sym seen-is) found

      room-again : HasRoom x.fixed x.entries event → HasRoom x.fixed (entries_in (marks_at y)) event
      room-again room = subst (λ (l : List Entry). HasRoom x.fixed l event) (sym seen-is) room

    made-nothing : y ≡ x → after.made ≡ p.made
    made-nothing same =
        made-by p (marks_at x) (marks_at y) [] (ap marks_at same ∙ sym (append-nil (marks_at x))) ∙ append-nil p.made

    was-full : (entries losses capacity : ℕ) → IsFull event entries losses capacity x y → WasFull event entries losses capacity p after
    was-full entries losses capacity f =
        let same : y.entries ≡ x.entries = ap (λ (i : IssueNow). i.entries) f.same in
        let seen : x.entries ≡ entries_in (marks_at y) = sym (seen-is same) in
        record {
          fixed = x.fixed;
          fixed_is = sym goes.fixed_is;
          found = found-again same;
          made = made-nothing f.same;
          running = halt_in-made y.entries y.halt ∙ (ap (λ (i : IssueNow). i.halt) f.same ∙ f.running);
          entries_are = f.entries ∙ ap (λ (l : List Entry). length l) seen;
          losses_are = f.losses ∙ ap (λ (l : List Entry). up (nodes_after l) + asks event) seen;
          capacity_is = f.capacity;
          full =
              let a : entries ≡ length x.entries = f.entries in
              let b : losses ≡ losses_after x event = f.losses in
              let c : capacity ≡ x.fixed.capacity = f.capacity in
              let d : x.fixed.capacity < length x.entries + 1 + losses_after x event = f.full in
              omega arith;
        }

    -- ---- no node

    found-halted : (h : Halt) → x.halt ≡ Some h → y ≡ x → HadNoNode event p after
    found-halted h is same =
        let entries : y.entries ≡ x.entries = ap (λ (i : IssueNow). i.entries) same in
        record {
          fixed = x.fixed;
          fixed_is = sym goes.fixed_is;
          found = found-again entries;
          made = ap entries_in (made-nothing same);
          halt = h;
          halted = halt_in-made y.entries y.halt ∙ (ap (λ (i : IssueNow). i.halt) same ∙ is);
          by_this = λ none own. absurd (halt-unseen h is none own);
          room = λ none own. absurd (halt-unseen h is none own);
        }

    module _ (w : WasHalted (caller_of p) event x y) where
      abbrev the-halt : Halt
      the-halt = halt_of (caller_of p) (length (entries_by p.caller x.entries)) event

      halted-marks : marks_at y ≡ marks_at x ++ Ended the-halt ∷ []
      halted-marks =
          ap (λ (o : Option Halt). marks_in y.entries o) w.halt
          ∙ (ap (λ (l : List Entry). marks_in l (Some the-halt)) w.entries
          ∙ (marks_in-halted x.entries the-halt ∙ ap (λ (o : Option Halt). marks_in x.entries o ++ Ended the-halt ∷ []) (sym w.running)))

      halted-adds : Adds p (marks_at x) (marks_at y)
      halted-adds = (Ended the-halt ∷ [], halted-marks, (refl, own-is, refl))

      was-halted : HasRoom x.fixed x.entries event → HadNoNode event p after
      was-halted room = record {
        fixed = x.fixed;
        fixed_is = sym goes.fixed_is;
        found = found-again w.entries;
        made =
            ap entries_in (made-by p (marks_at x) (marks_at y) (Ended the-halt ∷ []) halted-marks)
            ∙ (entries_in-append p.made (Ended the-halt ∷ []) ∙ append-nil (entries_in p.made));
        halt = the-halt;
        halted = halt_in-made y.entries y.halt ∙ w.halt;
        by_this = λ none own. refl;
        room = λ none own. room-again w.entries room;
      }

    -- ---- by the answer

    pub adds : (answer : Result Reply TurnStop) → HasTurned (caller_of p) event answer x y → Adds p (marks_at x) (marks_at y)
    adds (Ok reply) d = entered-adds reply d
    adds (Err NoNode) (inl same) = adds-nothing p (marks_at x) (marks_at y) (ap marks_at same.2)
    adds (Err NoNode) (inr w) = halted-adds w
    adds (Err (JournalFull n u c)) f = adds-nothing p (marks_at x) (marks_at y) (ap marks_at f.same)

    -- the turn answers that the journal is full wherever it has no room
    abbrev pub SaysFull : Result Reply TurnStop → Type 0
    SaysFull answer =
        x.halt ≡ None → (HasPlace event x → ⊥) → answer ≡ Err (JournalFull (length x.entries) (losses_after x event) x.fixed.capacity)

    answered : (answer : Result Reply TurnStop) → HasTurned (caller_of p) event answer x y → SaysFull answer → HasAnswered event answer p after
    answered (Ok reply) d full = has-entered reply d (room-for (Ok reply) d.before (λ (is : Ok reply ≡ Err _). cc) full)
    answered (Err NoNode) (inl same) full = found-halted same.0 same.1 same.2
    answered (Err NoNode) (inr w) full = was-halted w (room-for (Err NoNode) w.running (λ is. cc) full)
    answered (Err (JournalFull n u c)) f full = was-full n u c f

    runs-not : {A : Type 0} (h : Halt) → halt_in p.seen ≡ Some h → x.halt ≡ None → A
    runs-not h seen running = let both : None ≡ Some h = sym running ∙ halted-is h seen in absurd (cc)

    stays-halted : (answer : Result Reply TurnStop) → HasTurned (caller_of p) event answer x y → StaysHalted answer p after
    stays-halted (Ok reply) d h seen = runs-not h seen d.before
    stays-halted (Err NoNode) (inl same) h seen = (refl, ap marks_at same.2 ∙ all-seen h seen)
    stays-halted (Err NoNode) (inr w) h seen = runs-not h seen w.running
    stays-halted (Err (JournalFull n u c)) f h seen = runs-not h seen f.running

    pub served : (answer : Result Reply TurnStop) (q : Known Fixed) → HasTurned (caller_of p) event answer x y → SaysFull answer
        → q ≡ after → Begins (marks_at x) q.seen → Holds q.seen q → IsServed event answer p q
    served answer q turned full is grows holds =
        record {
          turn = subst (λ (z : Known Fixed). HasTakenTurn p z) (sym is) refl;
          grows = begins_trans p.seen (marks_at x) q.seen sees-from grows;
          whole = journal-seen y.entries y.halt q.seen (ap (λ (k : Known Fixed). k.seen) is);
          holds = holds;
          answered = subst (λ (z : Known Fixed). HasAnswered event answer p z) (sym is) (answered answer turned full);
          halted = subst (λ (z : Known Fixed). StaysHalted answer p z) (sym is) (stays-halted answer turned);
        }

-- ---- as the server sees it: the turn `t` was found with the issue `x`, and `z` is the issue in hand

module _ (p t : Known Fixed) (x z : IssueNow) (caller : Caller) (is : t ≡ entered p (marks_at x)) (goes : GoesOn marks_at fixed_at p x)
    (same : z ≡ x) (who : caller.0 ≡ t.caller) where
  who-is : caller.0 ≡ p.caller
  who-is = who ∙ ap (λ (k : Known Fixed). k.caller) is

  caller-is : caller ≡ caller_of p
  caller-is =
      let named : ℕ → Caller = λ (n : ℕ). record { 0 = n } in
      ap named who-is

  turned-at : (event : Event) (answer : Result Reply TurnStop) (y : IssueNow) → HasTurned caller event answer z y → HasTurned (caller_of p) event answer x y
  turned-at event answer y turned =
      let by_caller : Caller → Type 0 = λ (c : Caller). HasTurned c event answer z y in
      let by_issue : IssueNow → Type 0 = λ (i : IssueNow). HasTurned (caller_of p) event answer i y in
      subst by_issue same (subst by_caller caller-is turned)

  pub record-own : (own : ℕ) → own ≡ length (entries_in t.made) → own ≡ length (entries_by caller.0 z.entries)
  record-own own e =
      let made : length (entries_in t.made) ≡ length (entries_in p.made) = ap (λ (k : Known Fixed). length (entries_in k.made)) is in
      let there : length (entries_by caller.0 z.entries) ≡ length (entries_by p.caller x.entries) =
      ap (λ (i : IssueNow). length (entries_by caller.0 i.entries)) same ∙ ap (λ (n : ℕ). length (entries_by n x.entries)) who-is in
      e ∙ (made ∙ (sym (own-is p x goes) ∙ sym there))

  pub record-adds : (event : Event) (answer : Result Reply TurnStop) (y : IssueNow) → HasTurned caller event answer z y
      → (added : List Mark) × (marks_at y ≡ t.seen ++ added) × IsTurn t.caller (length (entries_in t.made)) added
  record-adds event answer y turned =
      let to : Known Fixed → Type 0 = λ (k : Known Fixed).
      (added : List Mark) × (marks_at y ≡ k.seen ++ added) × IsTurn k.caller (length (entries_in k.made)) added in
      subst to (sym is) (adds p x goes event y answer (turned-at event answer y turned))

  pub record-served : (event : Event) (answer : Result Reply TurnStop) (y : IssueNow) (q : Known Fixed) → HasTurned caller event answer z y
      → (z.halt ≡ None → (HasPlace event z → ⊥) → answer ≡ Err (JournalFull (length z.entries) (losses_after z event) z.fixed.capacity))
      → q ≡ left_with t (marks_at y) → Begins t.seen q.seen → Holds q.seen q → IsServed event answer p q
  record-served event answer y q turned full left grows holds =
      let says : IssueNow → Type 0 = λ (i : IssueNow).
      i.halt ≡ None → (HasPlace event i → ⊥) → answer ≡ Err (JournalFull (length i.entries) (losses_after i event) i.fixed.capacity) in
      let begun : Known Fixed → Type 0 = λ (k : Known Fixed). Begins k.seen q.seen in
      served p x goes event y answer q (turned-at event answer y turned) (subst says same full)
      (left ∙ ap (λ (k : Known Fixed). left_with k (marks_at y)) is) (subst begun is grows) holds

-- ---- the answer of a try that took its turn

module _ (event : Event) (answer : Result Reply TurnStop) (out : Result Reply TryStop) (p q : Known Fixed) where
  pub tried-entered : (reply : Reply) → IsServed event answer p q → answer ≡ Ok reply → out ≡ Ok reply → HasTried event out p q
  tried-entered reply served is tried =
      let by_answer : Result Reply TurnStop → Type 0 = λ (a : Result Reply TurnStop). IsServed event a p q in
      let by_out : Result Reply TryStop → Type 0 = λ (o : Result Reply TryStop). HasTried event o p q in
      subst by_out (sym tried) (subst by_answer is served)

  pub tried-stopped : (stop : TurnStop) → IsServed event answer p q → answer ≡ Err stop → out ≡ Err (Stop stop) → HasTried event out p q
  tried-stopped stop served is tried =
      let by_answer : Result Reply TurnStop → Type 0 = λ (a : Result Reply TurnStop). IsServed event a p q in
      let by_out : Result Reply TryStop → Type 0 = λ (o : Result Reply TryStop). HasTried event o p q in
      subst by_out (sym tried) (subst by_answer is served)
