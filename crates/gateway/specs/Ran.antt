-- What a gateway is, and what its lines of a stage do.
use Rattle.std.specs.Prelude.{◌≡◌, ℕ, ◌==◌, ◌<◌, ◌≤◌, Bool, true, false, List, [], ◌∷◌, ◌++◌, length, map, filter, filter_map, nat_lt, Option, IfSome, All, AllPairs, slice_get, slice_index_or, option_map}
use Rattle.mkt_base.specs.Desk.{DeskState}
use Rattle.mkt_base.specs.declared.event.Event.{Event}
use Rattle.mkt_base.specs.declared.quote.Board.{Board}
use Rattle.mkt_base.specs.declared.script.Act.{Act}
use Rattle.mkt_base.specs.declared.script.Act.TheVariants.{Do, Show}
use Rattle.mkt_base.specs.declared.script.ScriptLine.{ScriptLine}
use Rattle.mkt_base.specs.declared.script.ShowLine.{ShowLine}
use Rattle.mkt_base.specs.declared.units.Caller.{Caller}
use Rattle.gateway.specs.Served.{Answer, Served, TakesAct, act_of, board_by}

-- ---- the gateway

-- whose it is, its lines that are not yet done, and the boards that it has read
pub record GatewayNow : Type 0 where
  pub caller : Caller
  pub lines : List ScriptLine
  pub shows : List ShowLine

-- the act reads the board
abbrev pub is_read : Act → Bool
is_read (Do event) = false
is_read Show = true

-- the line does so
abbrev pub is_show : ScriptLine → Bool
is_show l = is_read l.act

-- stages do not fall
abbrev pub AreInStages : List ScriptLine → Type 0
AreInStages lines = AllPairs (λ (a b : ScriptLine). a.stage ≤ b.stage) lines

-- the first line is of no earlier stage
abbrev pub BeginNoEarlier : ℕ → List ScriptLine → Type 0
BeginNoEarlier stage lines = IfSome (slice_get lines 0) (λ (l : ScriptLine). stage ≤ l.stage)

-- the lines of a stage, and those of later ones
abbrev pub lines_in : ℕ → List ScriptLine → List ScriptLine
lines_in stage lines = filter (λ (l : ScriptLine). l.stage == stage) lines

abbrev pub lines_after : ℕ → List ScriptLine → List ScriptLine
lines_after stage lines = filter (λ (l : ScriptLine). nat_lt stage l.stage) lines

-- whether the first line is of a stage
abbrev pub comes_next : ℕ → List ScriptLine → Bool
comes_next stage [] = false
comes_next stage (l ∷ lines) = l.stage == stage

-- the desk of the line's issue takes its event
abbrev pub IsTaken : {D F : Type 0} → (F → Event → Type 0) → (D → F) → List D → ScriptLine → Type 0
IsTaken {D} takes fixed desks l = (d : D) → TakesAct takes (fixed (slice_index_or desks l.issue d)) l.act

-- ---- what was done

-- a line and what its desk answered
pub record Deed : Type 0 where
  pub line : ScriptLine
  pub answer : Answer

-- the board is kept with the line's number, the gateway and the issue
abbrev pub show_of : Caller → Deed → Option ShowLine
show_of gateway x = option_map (λ (board : Board). record { line = x.line.line; gateway = gateway; issue = x.line.issue; board = board }) (board_by x.answer)

-- what the desk of an issue answered
abbrev pub answers_at : ℕ → List Deed → List Answer
answers_at issue done = map (λ (x : Deed). x.answer) (filter (λ (x : Deed). x.line.issue == issue) done)

-- Lines were done at the desks, one for each issue by its number: each was asked of the desk of its issue, the boards are kept behind
-- those that were kept before, and each desk has become what its answers tell.
pub record Did {D F : Type 0} (state : D → DeskState) (fixed : D → F) (tells : D → Board → ℕ → Type 0) (gateway : Caller) (done : List Deed) (shows kept : List ShowLine) (desks after : List D) : Type 0 where
  pub asked : All (λ (x : Deed). act_of x.answer ≡ x.line.act) done
  pub shows_kept : kept ≡ shows ++ filter_map (show_of gateway) done
  pub each : length after ≡ length desks
  pub served : (issue : ℕ) (d : D) → issue < length desks → Served state fixed tells (answers_at issue done) (slice_index_or desks issue d) (slice_index_or after issue d)

-- The lines of a stage were done, in order.
pub record Ran {D F : Type 0} (state : D → DeskState) (fixed : D → F) (tells : D → Board → ℕ → Type 0) (stage : ℕ) (old new : GatewayNow) (desks after : List D) : Type 0 where
  pub done : List Deed
  pub lines : map (λ (x : Deed). x.line) done ≡ lines_in stage old.lines
  pub did : Did state fixed tells old.caller done old.shows new.shows desks after

-- Some lines of a stage were done, in order, and the gateway has none of an earlier stage.
pub record RunSoFar {D F : Type 0} (state : D → DeskState) (fixed : D → F) (tells : D → Board → ℕ → Type 0) (stage : ℕ) (old new : GatewayNow) (desks after : List D) : Type 0 where
  pub done : List Deed
  pub whose : new.caller ≡ old.caller
  pub lines : old.lines ≡ map (λ (x : Deed). x.line) done ++ new.lines
  pub staged : All (λ (x : Deed). x.line.stage ≡ stage) done
  pub next : BeginNoEarlier stage new.lines
  pub did : Did state fixed tells old.caller done old.shows new.shows desks after
