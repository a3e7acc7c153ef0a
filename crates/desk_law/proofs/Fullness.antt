-- No journal of an issue that was opened for a script was too small for an event of its gateways.
use Rattle.std.proofs.Common.{◌≡◌, ℕ, ◌+◌, ◌<◌, ◌≤◌, List, [], ◌∷◌, length, filter_map, take, Some, None, Ok, Err, All, sym, ap, subst, ◌∙◌, arith, slice_get}
use Rattle.std.proofs.lemmas.List.{length-map, length-take-le}
use Rattle.std.proofs.lemmas.Option.{none-some, same_Some}
use Rattle.mkt_base.specs.declared.event.Entry.{Entry}
use Rattle.mkt_base.specs.declared.journal.Stopped.{Stopped}
use Rattle.mkt_base.specs.declared.journal.TurnStop.TheVariants.{JournalFull}
use Rattle.node_rules.specs.Nodes.{up}
use Rattle.turn_cell.specs.Marks.{entries_in}
use Rattle.turn_cell.specs.Passes.{Known}
use Rattle.turn_writer.specs.Writing as writing
use Rattle.rules_file.specs.Rules.{gateways_in}
use Rattle.rules_file.specs.declared.rules.Rules.{Rules}
use Rattle.script_file.specs.Script.{IsScript}
use Rattle.script_file.specs.declared.script.GatewayScriptLine.{GatewayScriptLine}
use Rattle.script_file.specs.declared.script.Script.{Script}
use Rattle.issue_machine.specs.History.{entries_by, nodes_after}
use Rattle.issue_journal.specs.Issue.{Fixed, IssueNow}
use Rattle.run_law.specs.Run.{count_of, lines_of}
use Rattle.gateway.specs.Ran.{Deed}
use Rattle.gateway.specs.Served.{first_stop}
use Rattle.stage_law.specs.Come.{Cut, answers_of, entered_in}
use Rattle.stage_law.specs.Played.{bare, lines_at, lines_done}
use Rattle.stage_law.proofs.Asks.{Ask, Asked, WasAsked, asks, entered-asked, first-asked, made_at, stage_at, stages-asked, stop_at}
use Rattle.script_run.specs.Running.{capacity_for, count_for}
use Rattle.run_room.specs.Laws.{AreWithinLines, IsShort, NoJournalIsFull, length_with}
use Rattle.issue_desk.specs.Desk.{DeskNow}
use Rattle.desk_law.specs.Laws.{HasEnded}
use Rattle.desk_law.proofs.AtEnd.{NeverFull}
use Rattle.desk_law.proofs.Fronts.{callers-within}
use Rattle.desk_law.proofs.LastPass.{front-same, own-entries, seen-within}

-- ---- deeds against lines

-- each event that was asked to be entered was entered or stopped
entered-or-stopped : (xs : List Ask) → length (filter_map made_at xs) + length (filter_map stop_at xs) ≡ length xs
entered-or-stopped [] = omega arith
entered-or-stopped (Asked stage event (Ok reply) ∷ xs) =
    let rest : length (filter_map made_at xs) + length (filter_map stop_at xs) ≡ length xs = entered-or-stopped xs in
    omega (arith, rest)
entered-or-stopped (Asked stage event (Err cause) ∷ xs) =
    let rest : length (filter_map made_at xs) + length (filter_map stop_at xs) ≡ length xs = entered-or-stopped xs in
    omega (arith, rest)

entered-within : (deeds : List Deed) → length (entered_in deeds) ≤ length (asks deeds)
entered-within deeds =
    let same : length (entered_in deeds) ≡ length (filter_map made_at (asks deeds)) = ap length (entered-asked deeds) in
    omega (arith, same, entered-or-stopped (asks deeds))

some-first : (xs : List Stopped) (s : Stopped) → slice_get xs 0 ≡ Some s → 1 ≤ length xs
some-first [] s is = absurd (none-some s is)
some-first (x ∷ xs) s is = omega arith

-- fewer were entered where one was stopped
entered-fewer : (deeds : List Deed) (s : Stopped) → first_stop None (answers_of deeds) ≡ Some s → length (entered_in deeds) < length (asks deeds)
entered-fewer deeds s first =
    let same : length (entered_in deeds) ≡ length (filter_map made_at (asks deeds)) = ap length (entered-asked deeds) in
    omega (arith, same, entered-or-stopped (asks deeds), some-first (filter_map stop_at (asks deeds)) s (sym (first-asked deeds) ∙ first))

-- as many were asked as the lines ask for
asked-lines : (issue gateway : ℕ) (made : List GatewayScriptLine) (deeds : List Deed) → lines_done deeds ≡ bare (lines_at issue gateway made) → All WasAsked deeds → length (lines_of issue gateway made) ≡ length (asks deeds)
asked-lines issue gateway made deeds lines asked =
    sym (length-map (lines_of issue gateway made) (λ (of : GatewayScriptLine). of.line.stage))
    ∙ ap length (stages-asked issue gateway made deeds lines asked) ∙ length-map (asks deeds) stage_at

-- ---- the room

no-room : (long n k has wants : ℕ) → long + 1 + k ≤ wants → long ≡ n → has ≡ wants → has < n + 1 + k → ⊥
no-room long n k has wants fits same capacity full = omega (arith, fits, same, capacity, full)

module _ (law : NoJournalIsFull) (rules : Rules) (script : Script) (issue : ℕ) (cuts : ℕ → Cut) (deeds : ℕ → List Deed) (desks : ℕ → DeskNow) (final : Known Fixed) (i : IssueNow)
    (read : IsScript rules script) (ended : HasEnded rules script issue cuts deeds desks final i) where
  abbrev gateways : ℕ
  gateways = length (gateways_in rules)

  -- a gateway's entries are as many as it entered
  count-entered : (g : ℕ) → 1 ≤ g → g ≤ gateways → count_of g i.entries ≡ length (entered_in (deeds g))
  count-entered g some within =
      ap (λ (es : List Entry). length (entries_by g es)) ended.closed.entries
      ∙ ap length (own-entries g (desks g) final (ended.closed.each g some within))
      ∙ sym (length-map (entries_in (desks g).pass.made) (λ (e : Entry). e.event))
      ∙ ap length (ended.did g some within).come.made

  count-asked : (g : ℕ) → 1 ≤ g → g ≤ gateways → length (lines_of issue g script.lines) ≡ length (asks (deeds g))
  count-asked g some within = let did = ended.did g some within in asked-lines issue g script.lines (deeds g) did.lines did.asked

  within-lines : AreWithinLines gateways issue script.lines i.entries
  within-lines g some within = omega (arith, count-entered g some within, count-asked g some within, entered-within (deeds g))

  stopped-short : (g : ℕ) → 1 ≤ g → g ≤ gateways → (s : Stopped) → (desks g).stop ≡ Some s → IsShort g issue script.lines i.entries
  stopped-short g some within s stop =
      let fewer : length (entered_in (deeds g)) < length (asks (deeds g)) = entered-fewer (deeds g) s (sym (ended.did g some within).come.stop ∙ stop) in
      omega (arith, count-entered g some within, count-asked g some within, fewer)

  pub never-full : (g : ℕ) → 1 ≤ g → g ≤ gateways → NeverFull (desks g)
  never-full g some within event n losses capacity stop =
      let met = ended.closed.each g some within in
      let full = met.desk.full event n losses capacity stop in
      let all : length i.entries ≡ length (entries_in final.seen) = ap length ended.closed.entries in
      let upto : n ≤ length i.entries = let there = full.seen in omega (arith, all, seen-within g (desks g) final met, there) in
      let front : take n (entries_in (desks g).pass.seen) ≡ take n i.entries = sym (ap (take n) ended.closed.entries ∙ front-same g (desks g) final met n full.seen) in
      let fixed : full.fixed ≡ i.fixed = same_Some full.fixed i.fixed (sym full.fixed_is ∙ met.fixed ∙ sym ended.closed.fixed) in
      let fits : length_with event (take n i.entries) ≤ capacity_for (count_for issue script.lines) =
      law i.fixed.participants gateways issue script.lines i.entries n g event read.gateways ended.closed.issue_now.history upto (callers-within gateways i.entries ended.closed.nobody_else) within-lines some within
      (stopped-short g some within (record { event = event; cause = JournalFull n losses capacity }) stop) in
      no-room (length (take n i.entries)) n (up (nodes_after (take n i.entries)) + writing.asks event) full.fixed.capacity (capacity_for (count_for issue script.lines)) fits (length-take-le n i.entries upto)
      (ap (λ (f : Fixed). f.capacity) fixed ∙ ended.capacity)
      (subst (λ (es : List Entry). full.fixed.capacity < n + 1 + (up (nodes_after es) + writing.asks event)) front full.full)
