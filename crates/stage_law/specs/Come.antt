-- How far a gateway has come at the desk of one issue when a stage begins: what it has done in the stages before, and what of it every
-- gateway's desk can tell.
use Rattle.std.specs.Prelude.{◌≡◌, ℕ, ◌+◌, ◌<◌, ◌≤◌, Bool, true, false, List, map, filter, length, cond, nat_lt, None, Some, IfSome, All, AllPairs}
use Rattle.mkt_base.specs.Desk.{DeskState}
use Rattle.mkt_base.specs.declared.event.Event.{Event}
use Rattle.mkt_base.specs.declared.journal.Halt.{Halt}
use Rattle.mkt_base.specs.declared.quote.Board.{Board}
use Rattle.gateway.specs.Ran.{Deed}
use Rattle.gateway.specs.Served.{Answer, AreTold, board_by, events_made, first_stop, is_no_node, lengths_shown, made_by}

-- Where a stage of an issue begins: how many entries of its journal every gateway has seen by then, and whether the issue was seen to be
-- halted.
pub record Cut : Type 0 where
  pub length : ℕ
  pub halted : Bool

-- what the desk answered
abbrev pub answers_of : List Deed → List Answer
answers_of deeds = map (λ (x : Deed). x.answer) deeds

-- the deeds of the stages before this one
abbrev pub done_before : ℕ → List Deed → List Deed
done_before stage deeds = filter (λ (x : Deed). nat_lt x.line.stage stage) deeds

-- the events that were entered by deeds, in order
abbrev pub entered_in : List Deed → List Event
entered_in deeds = events_made (answers_of deeds)

-- the desk has said of a front part of its journal of at most this length, and of one of at least this length, that it has the first so
-- many of its events; so the front part of just this length has them too
pub record IsBetween (tells : Board → ℕ → Type 0) (length made : ℕ) : Type 0 where
  pub low : Board
  pub low_told : tells low made
  pub upto : low.length ≤ length
  pub high : Board
  pub high_told : tells high made
  pub from : length ≤ high.length

-- a board that was read in a stage is no shorter than the journal where the stage begins, and no longer than where the next one begins
abbrev pub IsReadWithin : (ℕ → Cut) → Deed → Type 0
IsReadWithin cuts x = IfSome (board_by x.answer) (λ (b : Board). ((cuts x.line.stage).length ≤ b.length) × (b.length ≤ (cuts (x.line.stage + 1)).length))

-- the issue was seen to be halted, and what this gateway did not enter had been stopped by then where the halt is its own
pub record IsHaltKnown (caller : ℕ) (deeds : List Deed) (state : DeskState) : Type 0 where
  pub halt : Halt
  pub seen : state.halt ≡ Some halt
  pub own : halt.caller.0 ≡ caller → first_stop None (answers_of deeds) ≡ None → ⊥

-- What a gateway has done at the desk of an issue when this stage begins. The deeds are those at this desk alone; the cuts are those of the
-- issue, and the same for all gateways.
pub record HasCome (caller stage : ℕ) (cuts : ℕ → Cut) (deeds : List Deed) (state : DeskState) (tells : Board → ℕ → Type 0) : Type 0 where
  -- the deeds are of earlier stages
  pub staged : All (λ (x : Deed). x.line.stage < stage) deeds
  -- what the desk has entered, and what stopped it first; nothing is entered behind an event for which no node was left
  pub made : state.made ≡ entered_in deeds
  pub stop : state.stop ≡ first_stop None (answers_of deeds)
  pub quiet : AllPairs (λ (x y : Answer). is_no_node x ≡ true → made_by y ≡ None) (answers_of deeds)
  pub gave_up : All (λ (x : Answer). is_no_node x ≡ true → state.ended ≡ true) (answers_of deeds)
  -- what it has shown
  pub boards : AreTold tells 0 (answers_of deeds)
  pub forward : AllPairs (λ (m n : ℕ). m ≤ n) (lengths_shown (answers_of deeds))
  pub upto : All (λ (n : ℕ). n ≤ state.seen) (lengths_shown (answers_of deeds))
  pub read : All (IsReadWithin cuts) deeds
  -- it has seen the journal where the stage begins; and of each stage so far, what stands before its begin is what it entered before it
  pub seen : (cuts stage).length ≤ state.seen
  pub told : (s : ℕ) → s ≤ stage → IsBetween tells (cuts s).length (length (entered_in (done_before s deeds)))
  -- no event found the issue without a node before a stage in which it was not yet seen to be halted; none was entered from one on in which it
  -- was
  pub running : (s : ℕ) → s ≤ stage → (cuts s).halted ≡ false → All (λ (x : Deed). is_no_node x.answer ≡ false) (done_before s deeds)
  pub halted : (s : ℕ) → s ≤ stage → (cuts s).halted ≡ true → entered_in deeds ≡ entered_in (done_before s deeds)
  pub known : (s : ℕ) → s ≤ stage → (cuts s).halted ≡ true → IsHaltKnown caller (done_before s deeds) state

-- the cuts with that of one stage more
abbrev pub cut_at : (ℕ → Cut) → ℕ → Cut → ℕ → Cut
cut_at cuts stage cut s = cond (nat_lt s stage) (cuts s) cut

-- What was learned of a gateway's desk between two stages: the state of the desk when its deeds of the stage were done, and the state once it
-- has seen what every desk had seen.
pub record HasSeenAll (caller : ℕ) (cut : Cut) (before tells : Board → ℕ → Type 0) (ran new : DeskState) : Type 0 where
  -- what it had said is still said
  pub keeps : (board : Board) (made : ℕ) → before board made → tells board made
  -- what it had seen is no more than the cut, and it has now seen at least that
  pub upto : ran.seen ≤ cut.length
  pub seen : cut.length ≤ new.seen
  pub told : IsBetween tells cut.length (length new.made)
  -- it has entered nothing meanwhile
  pub made : new.made ≡ ran.made
  pub stop : new.stop ≡ ran.stop
  pub ended : ran.ended ≡ true → new.ended ≡ true
  pub halt : (h : Halt) → ran.halt ≡ Some h → new.halt ≡ Some h
  -- where no halt was seen before, no desk had ended; where one was, it has now seen it
  pub running : cut.halted ≡ false → ran.ended ≡ false
  pub over : cut.halted ≡ true → (h : Halt) × (new.halt ≡ Some h) × (h.caller.0 ≡ caller → new.stop ≡ None → ⊥)
