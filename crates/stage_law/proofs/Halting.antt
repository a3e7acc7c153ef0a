-- An issue whose gateways did their lines by stages has each gateway's events: all, or those before the halt.
use Rattle.std.proofs.Common.{◌≡◌, ℕ, suc, ◌+◌, ◌≤◌, true, false, ltb, leb, List, length, take, Option, Some, None, refl, sym, ap, ◌∙◌, arith, length-append}
use Rattle.std.specs.List.{count_by}
use Rattle.std.proofs.lemmas.List.{length-map}
use Rattle.mkt_base.specs.declared.event.Entry.{Entry}
use Rattle.mkt_base.specs.declared.journal.Halt.{Halt}
use Rattle.script_file.specs.declared.script.GatewayScriptLine.{GatewayScriptLine}
use Rattle.issue_machine.specs.History.{entries_by}
use Rattle.run_law.specs.Run.{AreEntered, IsCut, count_of, entered_by, stages_for, stages_in}
use Rattle.run_law.proofs.Lists.{take-front}
use Rattle.run_law.proofs.Stages.{count-append, count-upto, rise-pairs}
use Rattle.stage_law.specs.Come.{Cut}
use Rattle.stage_law.specs.Laws.{PlayedIsRun}
use Rattle.stage_law.proofs.Places.{order, stages-rise, stages-under}
use Rattle.stage_law.proofs.Rises.{below, below-next, below-none}
use Rattle.stage_law.proofs.Went.{Halter, Went, all-went, halter-of, went-of}

-- what each gateway entered of an issue that was halted in a stage
cut-of : (issue g stages : ℕ) (made : List GatewayScriptLine) (cuts : ℕ → Cut) (journal : List Entry) (s : ℕ) → Went issue g made stages cuts journal → suc s ≤ stages → (cuts s).halted ≡ false → (cuts (suc s)).halted ≡ true
    → IsCut issue g made journal s
cut-of issue g stages made cuts journal s w upto runs over =
    let counted : count_of g journal ≡ length (entered_by g journal) = sym (length-map (entries_by g journal) (λ (e : Entry). e.event)) in
    let sooner : below s (stages_for issue g made) ≡ below s w.early + below s w.late = ap (below s) w.stages_are ∙ count-append (λ (n : ℕ). ltb n s) w.early w.late in
    let few : below s w.early ≤ length w.early = count-upto (λ (n : ℕ). ltb n s) w.early in
    let none : below s w.late ≡ 0 = below-none s w.late (w.running s (omega (arith, upto)) runs) in
    let upto_here : count_by (λ (n : ℕ). leb n s) (stages_for issue g made) ≡ count_by (λ (n : ℕ). leb n s) w.early + count_by (λ (n : ℕ). leb n s) w.late =
    ap (count_by (λ (n : ℕ). leb n s)) w.stages_are ∙ count-append (λ (n : ℕ). leb n s) w.early w.late in
    let all : count_by (λ (n : ℕ). leb n s) w.early ≡ length w.early = sym (below-next s w.early) ∙ w.halted (suc s) upto over in
    record {
      first = sym (ap (take (count_of g journal)) w.events_are ∙ take-front (entered_by g journal) w.rest (count_of g journal) counted);
      within = omega (arith, counted, ap length w.events_are, length-append (entered_by g journal) w.rest);
      earlier = omega (arith, sooner, few, none, w.many);
      no_later = omega (arith, upto_here, all, w.many);
    }

pub played-run : PlayedIsRun
played-run rules script participants issue cuts ended deeds sound history all = record {
  entered = entered ended.halt refl;
  order = rise-pairs (stages_in issue script.lines ended.journal) (order participants issue script.lines script.stages cuts ended.journal history went);
}
  where
    went : (g : ℕ) → 1 ≤ g → Went issue g script.lines script.stages cuts ended.journal
    went g some = went-of issue g script.stages script.lines cuts ended (deeds g) (all.each g some) (stages-rise rules script sound issue g) (stages-under rules script sound issue g)

    entered : (o : Option Halt) → ended.halt ≡ o → AreEntered issue script.lines ended.journal o
    entered None is = λ g some. all-went issue g script.stages script.lines cuts ended (deeds g) (all.each g some) (stages-rise rules script sound issue g) (stages-under rules script sound issue g) is
    entered (Some h) is =
        let g : ℕ = h.caller.0 in
        let some : 1 ≤ g = all.halter h is in
        let its : Halter issue script.lines script.stages cuts ended.journal h =
        halter-of issue script.stages script.lines cuts ended (deeds g) h (all.each g some) (stages-rise rules script sound issue g) (stages-under rules script sound issue g) is in
        record {
          next = its.next;
          stage = its.stage;
          at = its.at;
          cut = λ gateway one. cut-of issue gateway script.stages script.lines cuts ended.journal its.stage (went gateway one) its.under its.runs its.over;
        }
