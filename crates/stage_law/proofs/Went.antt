-- What one gateway's events in an issue are by stages, of those that were entered and of those that were not.
use Rattle.std.proofs.Common.{◌≡◌, ℕ, suc, ◌<◌, ◌≤◌, Bool, true, false, cond, List, [], ◌∷◌, ◌++◌, length, map, take, filter, filter_map, Some, None, IfSome, All, refl, sym, ap, subst, ◌∙◌, arith, append-nil, le-ltb}
use Rattle.std.specs.List.{AllByRecursion, slice_get}
use Rattle.std.proofs.lemmas.Bool.{both_ways, false_from_ne_true, true_from_ne_false}
use Rattle.std.proofs.lemmas.List.{length-map, map-append}
use Rattle.std.proofs.lemmas.List.Elements.{All-map, filter-append}
use Rattle.mkt_base.specs.declared.event.Entry.{Entry}
use Rattle.mkt_base.specs.declared.event.Event.{Event}
use Rattle.mkt_base.specs.declared.journal.Halt.{Halt}
use Rattle.mkt_base.specs.declared.journal.Stopped.{Stopped}
use Rattle.mkt_base.specs.declared.journal.TurnStop.TheVariants.{NoNode}
use Rattle.script_file.specs.declared.script.GatewayScriptLine.{GatewayScriptLine}
use Rattle.issue_machine.specs.History.{entries_by}
use Rattle.gateway.specs.Ran.{Deed}
use Rattle.gateway.specs.Served.{Answer, first_stop, is_no_node, made_by}
use Rattle.run_report.specs.declared.ended.EndedIssue.{EndedIssue}
use Rattle.run_law.specs.Run.{count_of, entered_by, events_for, stages_for}
use Rattle.run_law.proofs.Lists.{each-back, get-behind}
use Rattle.run_law.proofs.Stages.{Rise}
use Rattle.stage_law.specs.Come.{Cut, answers_of, done_before, entered_in}
use Rattle.stage_law.specs.Played.{HasPlayedLines}
use Rattle.stage_law.proofs.Asks.{Ask, asks, asks-before, each-asked, entered-asked, event_at, events-asked, first-asked, is_before, is_end, made_at, pairs-asked, stage_at, stages-asked, stop_at}
use Rattle.stage_law.proofs.Rises.{below}
use Rattle.stage_law.proofs.Splits.{IsNext, IsSplit, back-from, each-filter, entered-before, entered-split, next-of, no-stops, split-of, stops-behind}

-- the stages of the events that a gateway entered, and of those that it did not; and how many it had entered at the cuts
pub record Went (issue g : ℕ) (made : List GatewayScriptLine) (stages : ℕ) (cuts : ℕ → Cut) (journal : List Entry) : Type 0 where
  pub early : List ℕ
  pub late : List ℕ
  pub stages_are : stages_for issue g made ≡ early ++ late
  pub rest : List Event
  pub events_are : events_for issue g made ≡ entered_by g journal ++ rest
  pub many : count_of g journal ≡ length early
  pub rise : Rise (early ++ late)
  pub under : AllByRecursion (λ (n : ℕ). n < stages) (early ++ late)
  pub cut : (s : ℕ) → s ≤ stages → count_of g (take (cuts s).length journal) ≡ below s early
  pub running : (s : ℕ) → s ≤ stages → (cuts s).halted ≡ false → AllByRecursion (λ (n : ℕ). s ≤ n) late
  pub halted : (s : ℕ) → s ≤ stages → (cuts s).halted ≡ true → below s early ≡ length early

-- the event of a halt, among the events of its gateway
pub record Halter (issue : ℕ) (made : List GatewayScriptLine) (stages : ℕ) (cuts : ℕ → Cut) (journal : List Entry) (h : Halt) : Type 0 where
  pub stage : ℕ
  pub next : slice_get (events_for issue h.caller.0 made) (count_of h.caller.0 journal) ≡ Some h.event
  pub at : slice_get (stages_for issue h.caller.0 made) (count_of h.caller.0 journal) ≡ Some stage
  pub under : suc stage ≤ stages
  pub runs : (cuts stage).halted ≡ false
  pub over : (cuts (suc stage)).halted ≡ true

rise-back : (ms ns : List ℕ) → Rise (ms ++ ns) → Rise ns
rise-back [] ns rise = rise
rise-back (m ∷ ms) ns rise = rise-back ms ns rise.1

module _ (issue g stages : ℕ) (made : List GatewayScriptLine) (cuts : ℕ → Cut) (ended : EndedIssue) (deeds : List Deed) (played : HasPlayedLines made stages issue g cuts ended deeds)
    (rises : Rise (stages_for issue g made)) (unders : AllByRecursion (λ (n : ℕ). n < stages) (stages_for issue g made)) where
  pub split : IsSplit (asks deeds)
  split = split-of (asks deeds) (λ stopped is. played.played.first stopped (first-asked deeds ∙ is))
      (pairs-asked (λ (x y : Answer). is_no_node x ≡ true → made_by y ≡ None) deeds played.played.quiet)

  abbrev front : List Ask
  front = split.front

  abbrev back : List Ask
  back = split.back

  abbrev early : List ℕ
  early = map stage_at front

  abbrev late : List ℕ
  late = map stage_at back

  stages-whole : stages_for issue g made ≡ early ++ late
  stages-whole = stages-asked issue g made deeds played.lines played.asked ∙ ap (map stage_at) split.whole ∙ map-append stage_at front back

  rise-whole : Rise (early ++ late)
  rise-whole = subst Rise stages-whole rises

  under-whole : AllByRecursion (λ (n : ℕ). n < stages) (early ++ late)
  under-whole = subst (AllByRecursion (λ (n : ℕ). n < stages)) stages-whole unders

  entered : entered_by g ended.journal ≡ map event_at front
  entered = played.played.entered ∙ entered-asked deeds ∙ ap (filter_map made_at) split.whole ∙ entered-split front back split.made split.lost

  events-whole : events_for issue g made ≡ entered_by g ended.journal ++ map event_at back
  events-whole =
      events-asked issue g made deeds played.lines played.asked ∙ ap (map event_at) split.whole ∙ map-append event_at front back
      ∙ ap (λ (es : List Event). es ++ map event_at back) (sym entered)

  pub many-front : count_of g ended.journal ≡ length front
  many-front = sym (length-map (entries_by g ended.journal) (λ (e : Entry). e.event)) ∙ ap length entered ∙ length-map front event_at

  many-early : count_of g ended.journal ≡ length early
  many-early = many-front ∙ sym (length-map front stage_at)

  before-is : (s : ℕ) → asks (done_before s deeds) ≡ filter (is_before s) (front ++ back)
  before-is s = asks-before s deeds ∙ ap (filter (is_before s)) split.whole

  many-before : (s : ℕ) → length (entered_in (done_before s deeds)) ≡ below s early
  many-before s =
      ap length (entered-asked (done_before s deeds) ∙ ap (filter_map made_at) (before-is s)) ∙ entered-before s front back split.made split.lost

  -- where none found the issue without a node before a stage, what was not entered is of no stage before it
  running-late : (s : ℕ) → s ≤ stages → (cuts s).halted ≡ false → AllByRecursion (λ (n : ℕ). s ≤ n) late
  running-late s less runs =
      let none : All (λ (x : Answer). is_no_node x ≡ false) (answers_of (done_before s deeds)) = All-map (λ (x : Answer). is_no_node x ≡ false) (λ (x : Deed). x.answer) (done_before s deeds) (played.played.running s less runs) in
      let asked : AllByRecursion (λ (a : Ask). is_end a ≡ false) (filter (is_before s) front ++ filter (is_before s) back) =
      subst (AllByRecursion (λ (a : Ask). is_end a ≡ false)) (before-is s ∙ filter-append (is_before s) front back) (each-asked (λ (x : Answer). is_no_node x ≡ false) (done_before s deeds) none) in
      back-from s back (rise-back early late rise-whole) split.ends (each-back (λ (a : Ask). is_end a ≡ false) (filter (is_before s) front) (filter (is_before s) back) asked)

  halted-early : (s : ℕ) → s ≤ stages → (cuts s).halted ≡ true → below s early ≡ length early
  halted-early s less over =
      sym (many-before s) ∙ sym (ap length (played.played.halted s less over)) ∙ ap length (sym played.played.entered) ∙ length-map (entries_by g ended.journal) (λ (e : Entry). e.event) ∙ many-early

  pub went-of : Went issue g made stages cuts ended.journal
  went-of = record {
    early = early;
    late = late;
    stages_are = stages-whole;
    rest = map event_at back;
    events_are = events-whole;
    many = many-early;
    rise = rise-whole;
    under = under-whole;
    cut = λ s less. played.played.cut s less ∙ many-before s;
    running = running-late;
    halted = halted-early;
  }

  -- an issue with no halt has all events
  pub all-went : ended.halt ≡ None → entered_by g ended.journal ≡ events_for issue g made
  all-went none = entered ∙ sym (by split.back split.lost split.ends split.whole)
    where
      calm : AllByRecursion (λ (a : Ask). is_end a ≡ false) (asks deeds)
      calm = each-asked (λ (x : Answer). is_no_node x ≡ false) deeds (played.played.calm none)

      by : (bs : List Ask) → AllByRecursion (λ (a : Ask). made_at a ≡ None) bs → (IfSome (slice_get bs 0) (λ (a : Ask). is_end a ≡ true)) → asks deeds ≡ front ++ bs → events_for issue g made ≡ map event_at front
      by [] lost ends whole = events-asked issue g made deeds played.lines played.asked ∙ ap (map event_at) whole ∙ map-append event_at front [] ∙ append-nil (map event_at front)
      by (b ∷ bs) lost ends whole =
          let last : AllByRecursion (λ (a : Ask). is_end a ≡ false) (b ∷ bs) = each-back (λ (a : Ask). is_end a ≡ false) front (b ∷ bs) (subst (AllByRecursion (λ (a : Ask). is_end a ≡ false)) whole calm) in
          absurd (both_ways (is_end b) last.0 ends)

  -- the gateway whose event found the issue halted
  module _ (h : Halt) (is : ended.halt ≡ Some h) (mine : h.caller.0 ≡ g) where
    stop-is : slice_get (filter_map stop_at (asks deeds)) 0 ≡ Some (record { event = h.event; cause = NoNode })
    stop-is = sym (first-asked deeds) ∙ played.played.own h is mine

    next : IsNext back h.event
    next = next-of back h.event split.lost
        (ap (λ (ss : List Stopped). slice_get ss 0) (sym (ap (filter_map stop_at) split.whole ∙ stops-behind front back split.made)) ∙ stop-is)

    abbrev stage : ℕ
    stage = stage_at next.its

    late-is : late ≡ stage ∷ map stage_at next.more
    late-is = ap (map stage_at) next.is

    late-each : (P : ℕ → Type 0) → AllByRecursion P late → P stage
    late-each P all = (subst (AllByRecursion P) late-is all).0

    under : stage < stages
    under = late-each (λ (n : ℕ). n < stages) (each-back (λ (n : ℕ). n < stages) early late under-whole)

    -- no event of an earlier stage was stopped
    none-before : first_stop None (answers_of (done_before stage deeds)) ≡ None
    none-before =
        let later : AllByRecursion (λ (n : ℕ). stage ≤ n) late = rise-late (rise-back early late rise-whole) in
        let kept : filter (is_before stage) back ≡ [] = none-kept back later in
        first-asked (done_before stage deeds)
        ∙ ap (λ (zs : List Ask). slice_get (filter_map stop_at zs) 0) (before-is stage ∙ filter-append (is_before stage) front back ∙ ap (λ (zs : List Ask). filter (is_before stage) front ++ zs) kept ∙ append-nil (filter (is_before stage) front))
        ∙ ap (λ (ss : List Stopped). slice_get ss 0) (no-stops (filter (is_before stage) front) (each-filter (λ (a : Ask). made_at a ≡ Some (event_at a)) (is_before stage) front split.made))
      where
        rise-late : Rise late → AllByRecursion (λ (n : ℕ). stage ≤ n) late
        rise-late rise = subst (AllByRecursion (λ (n : ℕ). stage ≤ n)) (sym late-is) (omega arith, (subst Rise late-is rise).0)

        none-kept : (bs : List Ask) → AllByRecursion (λ (n : ℕ). stage ≤ n) (map stage_at bs) → filter (is_before stage) bs ≡ []
        none-kept [] all = refl
        none-kept (b ∷ bs) all = ap (λ (t : Bool). cond t (b ∷ filter (is_before stage) bs) (filter (is_before stage) bs)) (le-ltb (stage_at b) stage all.0) ∙ none-kept bs all.1

    runs-there : (cuts stage).halted ≡ false
    runs-there = false_from_ne_true (cuts stage).halted (λ over. played.played.known stage (omega (arith, under)) over h is mine none-before)

    over-behind : (cuts (suc stage)).halted ≡ true
    over-behind = true_from_ne_false (cuts (suc stage)).halted (λ runs. let more : suc stage ≤ stage = late-each (λ (n : ℕ). suc stage ≤ n) (running-late (suc stage) under runs) in absurd (omega (arith, more)))

    its-event : slice_get (events_for issue g made) (count_of g ended.journal) ≡ Some h.event
    its-event =
        ap (λ (es : List Event). slice_get es (count_of g ended.journal)) (events-whole ∙ ap (λ (bs : List Ask). entered_by g ended.journal ++ map event_at bs) next.is)
        ∙ get-behind (entered_by g ended.journal) (map event_at next.more) (event_at next.its) (count_of g ended.journal) (sym (length-map (entries_by g ended.journal) (λ (e : Entry). e.event)))
        ∙ ap (λ (e : Event). Some e) next.same

    its-stage : slice_get (stages_for issue g made) (count_of g ended.journal) ≡ Some stage
    its-stage =
        ap (λ (ns : List ℕ). slice_get ns (count_of g ended.journal)) (stages-whole ∙ ap (λ (ns : List ℕ). early ++ ns) late-is)
        ∙ get-behind early (map stage_at next.more) stage (count_of g ended.journal) many-early

-- the gateway of a halt
pub halter-of : (issue stages : ℕ) (made : List GatewayScriptLine) (cuts : ℕ → Cut) (ended : EndedIssue) (deeds : List Deed) (h : Halt) → HasPlayedLines made stages issue h.caller.0 cuts ended deeds
    → Rise (stages_for issue h.caller.0 made) → AllByRecursion (λ (n : ℕ). n < stages) (stages_for issue h.caller.0 made) → ended.halt ≡ Some h → Halter issue made stages cuts ended.journal h
halter-of issue stages made cuts ended deeds h played rises unders is =
    let g : ℕ = h.caller.0 in
    record {
      stage = stage issue g stages made cuts ended deeds played rises unders h is refl;
      next = its-event issue g stages made cuts ended deeds played rises unders h is refl;
      at = its-stage issue g stages made cuts ended deeds played rises unders h is refl;
      under = under issue g stages made cuts ended deeds played rises unders h is refl;
      runs = runs-there issue g stages made cuts ended deeds played rises unders h is refl;
      over = over-behind issue g stages made cuts ended deeds played rises unders h is refl;
    }
