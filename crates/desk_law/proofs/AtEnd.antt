-- What is known at the end of a desk whose stop, if any, found no node.
use Rattle.std.proofs.Common.{◌≡◌, ℕ, true, false, Option, Some, None, is_some, refl, sym, ap, ◌∙◌, map}
use Rattle.std.proofs.lemmas.Bool.{both_ways}
use Rattle.std.proofs.lemmas.Option.{none-some}
use Rattle.mkt_base.specs.declared.event.Entry.{Entry}
use Rattle.mkt_base.specs.declared.event.Event.{Event}
use Rattle.mkt_base.specs.declared.journal.Halt.{Halt}
use Rattle.mkt_base.specs.declared.journal.Stopped.{Stopped}
use Rattle.mkt_base.specs.declared.journal.TurnStop.{TurnStop}
use Rattle.mkt_base.specs.declared.journal.TurnStop.TheVariants.{NoNode, JournalFull}
use Rattle.turn_cell.specs.Marks.{entries_in, halt_in}
use Rattle.turn_cell.specs.Passes.{Known}
use Rattle.issue_journal.specs.Issue.{Fixed}
use Rattle.issue_server.specs.Served.{IsJournalSeen}
use Rattle.stage_law.specs.Played.{IsAtEnd}
use Rattle.issue_desk.specs.Closed.{HasMet}
use Rattle.issue_desk.specs.Desk.{DeskNow, Tells, state_of}
use Rattle.desk_law.proofs.LastPass.{ended-halt, halt-still, own-entries, own-halt-seen, stop_of, told-whole}

-- no event found the journal full
abbrev pub NeverFull : DeskNow → Type 0
NeverFull d = (event : Event) (entries losses capacity : ℕ) → d.stop ≡ stop_of event (JournalFull entries losses capacity) → ⊥

module _ (gateway : ℕ) (d : DeskNow) (final : Known Fixed) (met : HasMet gateway d final) (whole : IsJournalSeen final) (never : NeverFull d) where
  stop-cause : (s : Stopped) → d.stop ≡ Some s → s.cause ≡ NoNode
  stop-cause s stop = by s.cause refl
    where
      by : (c : TurnStop) → s.cause ≡ c → s.cause ≡ NoNode
      by NoNode same = same
      by (JournalFull entries losses capacity) same = absurd (never s.event entries losses capacity (stop ∙ ap (stop_of s.event) same))

  own-stop : (h : Halt) → halt_in final.seen ≡ Some h → h.caller.0 ≡ gateway → d.stop ≡ stop_of h.event NoNode
  own-stop h is mine = by d.stop refl (met.desk.stopped h seen own)
    where
      seen : halt_in d.pass.seen ≡ Some h
      seen = own-halt-seen gateway d final met h is mine

      own : h.caller.0 ≡ d.pass.caller
      own = mine ∙ sym met.caller

      by : (o : Option Stopped) → d.stop ≡ o → is_some o ≡ true → d.stop ≡ stop_of h.event NoNode
      by None stop some = absurd (both_ways false refl some)
      by (Some s) stop some =
          let found : d.stop ≡ stop_of s.event NoNode = stop ∙ ap (stop_of s.event) (stop-cause s stop) in
          found ∙ ap (λ (e : Event). stop_of e NoNode) (met.desk.own h s.event seen own found)

  pub at-end : IsAtEnd gateway (entries_in final.seen) (halt_in final.seen) (state_of d) (Tells d.pass)
  at-end = record {
    entered = ap (map (λ (e : Entry). e.event)) (own-entries gateway d final met);
    told = told-whole gateway d final met whole;
    stop = stop-cause;
    halt = halt-still gateway d final met;
    ended = λ ended none. let seen = ended-halt gateway d final met ended in none-some seen.0 (sym none ∙ halt-still gateway d final met seen.0 seen.1);
    own = own-stop;
  }
