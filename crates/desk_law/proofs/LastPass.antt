-- What a desk had seen and said, against all that the last pass has seen.
use Rattle.std.proofs.Common.{◌≡◌, ℕ, ◌≤◌, true, false, ◌||◌, List, ◌++◌, length, take, Option, Some, None, IfSome, is_some, refl, sym, ap, subst, ◌∙◌, arith, slice_get}
use Rattle.std.proofs.lemmas.Bool.{both_ways}
use Rattle.std.proofs.lemmas.List.{length-append, length-take-le, take-append-le}
use Rattle.mkt_base.specs.declared.event.Entry.{Entry}
use Rattle.mkt_base.specs.declared.event.Event.{Event}
use Rattle.mkt_base.specs.declared.journal.Halt.{Halt}
use Rattle.mkt_base.specs.declared.journal.Stopped.{Stopped}
use Rattle.mkt_base.specs.declared.journal.TurnStop.{TurnStop}
use Rattle.mkt_base.specs.declared.journal.TurnStop.TheVariants.{NoNode, JournalFull}
use Rattle.mkt_base.specs.declared.quote.Board.{Board}
use Rattle.turn_cell.specs.Marks.{entries_in, halt_in, marks_of}
use Rattle.turn_cell.specs.Passes.{Known}
use Rattle.issue_machine.specs.History.{entries_by}
use Rattle.issue_journal.specs.Issue.{Fixed}
use Rattle.issue_server.specs.Served.{IsJournalSeen}
use Rattle.issue_server.proofs.SeenLemmas.{entries_in-append, entries_in-of, halt-of_others, halt_in-front}
use Rattle.stage_law.specs.Played.{IsTold}
use Rattle.issue_desk.specs.Closed.{HasMet}
use Rattle.issue_desk.specs.Desk.{DeskNow, Tells, has_no_node, is_no_node, state_of}
use Rattle.desk_law.proofs.Fronts.{IsCalled, get-front, next-called}

-- an event and why it was not entered
abbrev pub stop_of : Event → TurnStop → Option Stopped
stop_of event cause = Some (record { event = event; cause = cause })

module _ (gateway : ℕ) (d : DeskNow) (final : Known Fixed) (met : HasMet gateway d final) where
  -- ---- entries

  entries-behind : entries_in final.seen ≡ entries_in d.pass.seen ++ entries_in met.begins.0
  entries-behind = ap entries_in met.begins.1 ∙ entries_in-append d.pass.seen met.begins.0

  pub seen-within : length (entries_in d.pass.seen) ≤ length (entries_in final.seen)
  seen-within =
      let all : length (entries_in final.seen) ≡ length (entries_in d.pass.seen ++ entries_in met.begins.0) = ap length entries-behind in
      omega (arith, all, length-append (entries_in d.pass.seen) (entries_in met.begins.0))

  -- of what the desk had seen each front part is still one
  pub front-same : (n : ℕ) → n ≤ length (entries_in d.pass.seen) → take n (entries_in final.seen) ≡ take n (entries_in d.pass.seen)
  front-same n within = ap (take n) entries-behind ∙ take-append-le n (entries_in d.pass.seen) (entries_in met.begins.0) within

  -- the gateway's entries are those that its desk made
  pub own-entries : entries_by gateway (entries_in final.seen) ≡ entries_in d.pass.made
  own-entries = sym (entries_in-of gateway final.seen) ∙ ap entries_in met.own

  -- ---- boards

  -- what the desk had said of a board is so in the whole
  pub told-whole : IsJournalSeen final → (board : Board) (made : ℕ) → Tells d.pass board made → IsTold gateway (entries_in final.seen) board made
  told-whole whole board made told = record {
    within = let there = told.within in omega (arith, seen-within, there);
    own = ap (λ (es : List Entry). length (entries_by gateway es)) (front-same board.length told.within)
        ∙ ap (λ (c : ℕ). length (entries_by c (take board.length (entries_in d.pass.seen)))) (sym met.caller)
        ∙ ap length told.own ∙ length-take-le made (entries_in d.pass.made) told.made_by_then;
    whole = subst (λ (es : List Entry). IfSome (slice_get es board.length) IsCalled) (sym entries-behind)
        (get-front IsCalled (entries_in d.pass.seen) (entries_in met.begins.0) board.length told.within told.whole
        (next-called d.pass.seen met.begins.0 (entries_in final.seen) (halt_in final.seen) (sym met.begins.1 ∙ whole) met.begins.2));
  }

  -- ---- halts

  -- a halt that the desk had seen is that of the whole
  pub halt-still : (h : Halt) → halt_in d.pass.seen ≡ Some h → halt_in final.seen ≡ Some h
  halt-still h is = ap halt_in met.begins.1 ∙ halt_in-front d.pass.seen met.begins.0 h is

  -- the desk had seen a halt of its own gateway
  pub own-halt-seen : (h : Halt) → halt_in final.seen ≡ Some h → h.caller.0 ≡ gateway → halt_in d.pass.seen ≡ Some h
  own-halt-seen h is mine = by (halt_in d.pass.seen) refl
    where
      made-seen : marks_of gateway d.pass.seen ≡ d.pass.made
      made-seen = subst (λ (c : ℕ). marks_of c d.pass.seen ≡ d.pass.made) met.caller met.desk.holds.0

      by : (o : Option Halt) → halt_in d.pass.seen ≡ o → halt_in d.pass.seen ≡ Some h
      by None none = absurd (halt-of_others gateway d.pass.seen final.seen d.pass.made met.begins made-seen met.own none h is mine)
      by (Some first) some = some ∙ sym (halt-still first some) ∙ is

  -- a desk that has ended had seen a halt
  pub ended-halt : (state_of d).ended ≡ true → (h : Halt) × (halt_in d.pass.seen ≡ Some h)
  ended-halt ended = by (halt_in d.pass.seen) refl d.stop refl ended
    where
      cause : halt_in d.pass.seen ≡ None → (s : Stopped) → d.stop ≡ Some s → (c : TurnStop) → s.cause ≡ c → has_no_node c ≡ true → ⊥
      cause none s stop NoNode same so =
          let seen : is_some (halt_in d.pass.seen) ≡ true = met.desk.no_node s.event (stop ∙ ap (stop_of s.event) same) in
          both_ways (is_some (halt_in d.pass.seen)) (ap is_some none) seen
      cause none s stop (JournalFull entries losses capacity) same so = both_ways false refl so

      by : (o : Option Halt) → halt_in d.pass.seen ≡ o → (stop : Option Stopped) → d.stop ≡ stop → (is_some o || is_no_node stop) ≡ true → (h : Halt) × (halt_in d.pass.seen ≡ Some h)
      by (Some h) seen stop kept is = (h, seen)
      by None none None kept is = absurd (both_ways false refl is)
      by None none (Some s) kept is = absurd (cause none s kept s.cause refl is)
