-- Gateways at their desks, stage by stage.
use Rattle.std.specs.Prelude.{◌≡◌, ℕ, ◌<◌, ◌≤◌, List, [], ◌++◌, length, filter_map, None, All, slice_index_or}
use Rattle.mkt_base.specs.Desk.{DeskState}
use Rattle.mkt_base.specs.declared.event.Event.{Event}
use Rattle.mkt_base.specs.declared.quote.Board.{Board}
use Rattle.mkt_base.specs.declared.script.ScriptLine.{ScriptLine}
use Rattle.gateway.specs.Ran.{AreInStages, BeginNoEarlier, Deed, IsTaken, Ran, lines_after, show_of}
use Rattle.gateway.specs.Served.{act_of}
use Rattle.stage_law.specs.Come.{Cut, HasCome}
use Rattle.stage_law.specs.Played.{deeds_at, lines_done}
use Rattle.stage_play.specs.declared.part.Part.{Part}
use Rattle.stage_play.specs.Seen.{CaughtUp, HasTold}
use Rattle.stage_play.specs.declared.seen.Sight.{Sight}

-- the desk of an issue, by the issue's number
abbrev pub desk_at : {D : Type 0} → Part D → ℕ → D → D
desk_at part issue d = slice_index_or part.desks.items issue d

-- a gateway may do its lines of a stage: it has none of an earlier one, and a desk for each that takes its event
pub record MayRun {D F : Type 0} (takes : F → Event → Type 0) (fixed : D → F) (stage : ℕ) (part : Part D) : Type 0 where
  pub next : BeginNoEarlier stage part.gateway.lines
  pub desks : All (λ (l : ScriptLine). l.issue < length part.desks.items) part.gateway.lines
  pub taken : All (IsTaken takes fixed part.desks.items) part.gateway.lines

-- what a gateway did in a stage
pub record HasRun {D F : Type 0} (state : D → DeskState) (fixed : D → F) (tells : D → Board → ℕ → Type 0) (stage : ℕ) (old new : Part D) : Type 0 where
  pub whose : new.gateway.caller ≡ old.gateway.caller
  pub rest : new.gateway.lines ≡ lines_after stage old.gateway.lines
  pub ran : Ran state fixed tells stage old.gateway new.gateway old.desks.items new.desks.items

module _ {D F : Type 0} (state : D → DeskState) (fixed : D → F) (caller : F → ℕ) (takes : F → Event → Type 0) (tells : D → Board → ℕ → Type 0) where
  -- a desk at which nothing was done yet
  pub record IsNew (gateway : ℕ) (d : D) : Type 0 where
    pub whose : caller (fixed d) ≡ gateway
    pub made : (state d).made ≡ []
    pub stop : (state d).stop ≡ None
    pub told : HasTold (tells d) 0 0

  -- a gateway before its first line, which has a desk for each of so many issues
  pub record IsReady (issues stages : ℕ) (part : Part D) : Type 0 where
    pub desks : length part.desks.items ≡ issues
    pub new : (issue : ℕ) (d : D) → issue < issues → IsNew part.gateway.caller.0 (desk_at part issue d)
    pub shows : part.gateway.shows ≡ []
    pub order : AreInStages part.gateway.lines
    pub within : All (λ (l : ScriptLine). l.stage < stages) part.gateway.lines
    pub issue : All (λ (l : ScriptLine). l.issue < issues) part.gateway.lines
    pub taken : All (IsTaken takes fixed part.desks.items) part.gateway.lines

  -- A gateway has done its lines of the stages before this one, and as many of each issue's desks as they were for. Old is how it was before
  -- its first line.
  pub record HasDone (issues stage : ℕ) (cuts : ℕ → ℕ → Cut) (old new : Part D) : Type 0 where
    pub deeds : List Deed
    pub whose : new.gateway.caller ≡ old.gateway.caller
    pub lines : old.gateway.lines ≡ lines_done deeds ++ new.gateway.lines
    pub asked : All (λ (x : Deed). act_of x.answer ≡ x.line.act) deeds
    pub later : All (λ (l : ScriptLine). stage ≤ l.stage) new.gateway.lines
    pub shows : new.gateway.shows ≡ filter_map (show_of old.gateway.caller) deeds
    pub desks : length new.desks.items ≡ issues
    pub fixed_is : (issue : ℕ) (d : D) → issue < issues → fixed (desk_at new issue d) ≡ fixed (desk_at old issue d)
    pub come : (issue : ℕ) (d : D) → issue < issues → HasCome old.gateway.caller.0 stage (cuts issue) (deeds_at issue deeds) (state (desk_at new issue d)) (tells (desk_at new issue d))

  -- all gateways have come so far
  abbrev pub AllDone : ℕ → ℕ → (ℕ → ℕ → Cut) → List (Part D) → List (Part D) → Type 0
  AllDone issues stage cuts old new = (k : ℕ) (p : Part D) → k < length old → HasDone issues stage cuts (slice_index_or old k p) (slice_index_or new k p)

  -- each of a gateway's desks has caught up
  pub record HasLevelled (sights : List Sight) (old new : Part D) : Type 0 where
    pub gateway : new.gateway ≡ old.gateway
    pub desks : length new.desks.items ≡ length old.desks.items
    pub each : (issue : ℕ) (d : D) (s : Sight) → issue < length old.desks.items → CaughtUp state fixed caller tells (slice_index_or sights issue s) (desk_at old issue d) (desk_at new issue d)
