-- An issue that was closed when all its gateways had done their lines is played.
use Rattle.std.proofs.Common.{◌≡◌, ℕ, ◌+◌, ◌<◌, ◌≤◌, ◌⊎◌, inl, inr, ◌==◌, Bool, false, ◌&&◌, List, [], ◌∷◌, length, take, Option, Some, None, Ok, Err, IfSome, All, refl, sym, ap, subst, ◌∙◌, arith, ne_eqb, slice_index_or}
use Rattle.std.proofs.lemmas.Bool.{cases_lt}
use Rattle.std.proofs.lemmas.List.Elements.{All-cons, All-nil}
use Rattle.mkt_base.specs.declared.event.Entry.{Entry}
use Rattle.mkt_base.specs.declared.journal.Halt.{Halt}
use Rattle.mkt_base.specs.declared.quote.Board.{Board}
use Rattle.turn_cell.specs.Marks.{entries_in}
use Rattle.turn_cell.specs.Passes.{Known}
use Rattle.rules_file.specs.Rules.{gateways_in}
use Rattle.rules_file.specs.declared.rules.Rules.{Rules}
use Rattle.script_file.specs.Script.{IsScript}
use Rattle.script_file.specs.declared.script.GatewayScriptLine.{GatewayScriptLine}
use Rattle.script_file.specs.declared.script.Script.{Script}
use Rattle.issue_machine.specs.Step.{board_of, state_after}
use Rattle.issue_journal.specs.Issue.{Fixed, IsHalted, IssueNow, Stands}
use Rattle.gateway.specs.Ran.{Deed}
use Rattle.gateway.specs.Served.{Answer, AreTold, Entered, Shown, act_of, board_by}
use Rattle.gateway.proofs.Lines.{filter-none}
use Rattle.stage_law.specs.Come.{Cut, answers_of}
use Rattle.stage_law.specs.Played.{HasPlayedLines, IsAtEnd, bare, lines_at}
use Rattle.stage_law.proofs.Coming.{played_at_end, played_nothing}
use Rattle.script_run.specs.Running.{ended_as}
use Rattle.run_room.specs.Laws.{NoJournalIsFull}
use Rattle.issue_desk.specs.Desk.{DeskNow, Tells, state_of}
use Rattle.desk_law.specs.Laws.{EndIsPlayed, HasEnded, IsBoardIn, IsPlayed}
use Rattle.desk_law.proofs.AtEnd.{at-end}
use Rattle.desk_law.proofs.Fronts.{callers-within}
use Rattle.desk_law.proofs.Fullness.{never-full}
use Rattle.desk_law.proofs.LastPass.{front-same, seen-within}

-- a caller above the gateways has no line
no-lines : (issue n g : ℕ) (made : List GatewayScriptLine) → All (λ (of : GatewayScriptLine). (1 ≤ of.gateway.0) × (of.gateway.0 ≤ n)) made → n < g → lines_at issue g made ≡ []
no-lines issue n g made gateways above =
    filter-none (λ (of : GatewayScriptLine). of.gateway.0 == g && of.line.issue == issue) made (λ k d less. other (slice_index_or made k d) (gateways k d less).1)
  where
    other : (of : GatewayScriptLine) → of.gateway.0 ≤ n → (of.gateway.0 == g && of.line.issue == issue) ≡ false
    other of within = ap (λ (b : Bool). b && of.line.issue == issue) (ne_eqb of.gateway.0 g (λ same. omega (arith, within, above, same)))

-- what follows for each board that was told
boards-told : (P : Board → Type 0) (tells : Board → ℕ → Type 0) → ((board : Board) (made : ℕ) → tells board made → P board) → (made : ℕ) (deeds : List Deed) → AreTold tells made (answers_of deeds)
    → All (λ (x : Deed). IfSome (board_by x.answer) P) deeds
boards-told P tells each made [] told = All-nil (λ (x : Deed). IfSome (board_by x.answer) P)
boards-told P tells each made (x ∷ deeds) told =
    let rest = behind x.answer told in
    All-cons (λ (y : Deed). IfSome (board_by y.answer) P) x deeds (here x.answer told) (boards-told P tells each rest.0 deeds rest.1)
  where
    here : (a : Answer) → AreTold tells made (a ∷ answers_of deeds) → IfSome (board_by a) P
    here (Entered event reply) told = tt
    here (Shown board) told = each board made told.0

    behind : (a : Answer) → AreTold tells made (a ∷ answers_of deeds) → (m : ℕ) × AreTold tells m (answers_of deeds)
    behind (Entered event (Ok reply)) told = (made + 1, told)
    behind (Entered event (Err cause)) told = (made, told)
    behind (Shown board) told = (made, told.1)

module _ (law : NoJournalIsFull) (rules : Rules) (script : Script) (issue : ℕ) (cuts : ℕ → Cut) (deeds : ℕ → List Deed) (desks : ℕ → DeskNow) (final : Known Fixed) (i : IssueNow)
    (read : IsScript rules script) (ended : HasEnded rules script issue cuts deeds desks final i) where
  abbrev gateways : ℕ
  gateways = length (gateways_in rules)

  -- ---- a gateway of the rules

  at-the-end : (g : ℕ) → 1 ≤ g → g ≤ gateways → IsAtEnd g i.entries i.halt (state_of (desks g)) (Tells (desks g).pass)
  at-the-end g some within =
      subst (λ (es : List Entry). IsAtEnd g es i.halt (state_of (desks g)) (Tells (desks g).pass)) (sym ended.closed.entries)
      (subst (λ (o : Option Halt). IsAtEnd g (entries_in final.seen) o (state_of (desks g)) (Tells (desks g).pass)) (sym ended.closed.halt)
      (at-end g (desks g) final (ended.closed.each g some within) ended.closed.whole (never-full law rules script issue cuts deeds desks final i read ended g some within)))

  abbrev Played : ℕ → List Deed → Type 0
  Played g done = HasPlayedLines script.lines script.stages issue g cuts (ended_as i) done

  played-within : (g : ℕ) → 1 ≤ g → g ≤ gateways → Played g (deeds g)
  played-within g some within =
      let did = ended.did g some within in
      record {
        lines = did.lines;
        asked = did.asked;
        played = played_at_end g script.stages cuts (deeds g) (state_of (desks g)) (Tells (desks g).pass) i.entries i.halt did.come (at-the-end g some within);
      }

  board-in : (g : ℕ) → 1 ≤ g → g ≤ gateways → (board : Board) (made : ℕ) → Tells (desks g).pass board made → IsBoardIn i board
  board-in g some within board made told =
      let met = ended.closed.each g some within in
      let all : length i.entries ≡ length (entries_in final.seen) = ap length ended.closed.entries in
      let front : take board.length (entries_in (desks g).pass.seen) ≡ take board.length i.entries =
      sym (ap (take board.length) ended.closed.entries ∙ front-same g (desks g) final met board.length told.within) in
      record {
        within = let there = told.within in omega (arith, all, seen-within g (desks g) final met, there);
        board_is = told.board_is i.fixed (met.fixed ∙ sym ended.closed.fixed) ∙ ap (λ (es : List Entry). board_of i.fixed.terms (state_after i.fixed.terms es)) front;
      }

  -- ---- no gateway of the rules

  played-above : (g : ℕ) → gateways < g → Played g (deeds g)
  played-above g above =
      subst (Played g) (sym (ended.others g above))
      (record {
        lines = sym (ap bare (no-lines issue gateways g script.lines read.gateways above));
        asked = All-nil (λ (x : Deed). act_of x.answer ≡ x.line.act);
        played = played_nothing g script.stages cuts i.entries i.halt (ended.closed.nobody_else g above)
            (λ h is mine. let below = ended.closed.halter h is in omega (arith, below, mine, above));
      })

  -- ---- all

  abbrev IsShownIn : Deed → Type 0
  IsShownIn x = IfSome (board_by x.answer) (IsBoardIn i)

  played-each : (g : ℕ) → 1 ≤ g → ((gateways < g) ⊎ (g ≤ gateways)) → Played g (deeds g)
  played-each g some (inl above) = played-above g above
  played-each g some (inr within) = played-within g some within

  boards-each : (g : ℕ) → 1 ≤ g → ((gateways < g) ⊎ (g ≤ gateways)) → All IsShownIn (deeds g)
  boards-each g some (inl above) = subst (All IsShownIn) (sym (ended.others g above)) (All-nil IsShownIn)
  boards-each g some (inr within) = boards-told (IsBoardIn i) (Tells (desks g).pass) (board-in g some within) 0 (deeds g) (ended.did g some within).come.boards

  halter-some : (h : Halt) → i.halt ≡ Some h → 1 ≤ h.caller.0
  halter-some h is = let halted : IsHalted h i = subst (Stands i) is ended.closed.issue_now.stands in halted.caller.0

  halter-within : (o : Option Halt) → i.halt ≡ o → IfSome o (λ (h : Halt). h.caller.0 ≤ gateways)
  halter-within None is = tt
  halter-within (Some h) is = ended.closed.halter h is

  pub played : IsPlayed gateways script issue cuts deeds i
  played = record {
    all = record { each = λ g some. played-each g some (cases_lt gateways g); halter = halter-some };
    boards = λ g some. boards-each g some (cases_lt gateways g);
    callers = callers-within gateways i.entries ended.closed.nobody_else;
    halter = halter-within i.halt refl;
  }

pub end-is-played : NoJournalIsFull → EndIsPlayed
end-is-played law rules script issue cuts deeds desks final i read ended = played law rules script issue cuts deeds desks final i read ended
