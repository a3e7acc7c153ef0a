-- A desk that shows its board until it has seen as much as the others.
use Rattle.std.proofs.Common.{◌≡◌, ℕ, ◌≤◌, true, length, Some, refl, subst, ◌∙◌}
use Rattle.mkt_base.specs.Desk.{DeskState, WasShown}
use Rattle.mkt_base.specs.declared.event.Event.{Event}
use Rattle.mkt_base.specs.declared.journal.Halt.{Halt}
use Rattle.mkt_base.specs.declared.quote.Board.{Board}
use Rattle.std.specs.Prelude.{List}
use Rattle.stage_play.specs.Seen.{CaughtUp, HasTold, IsOwnStopped}
use Rattle.stage_play.specs.declared.seen.Sight.{Sight}

-- what a desk that shows its board keeps
pub record HasShown {D F : Type 0} (state : D → DeskState) (fixed : D → F) (tells : D → Board → ℕ → Type 0) (old new : D) : Type 0 where
  pub same : fixed new ≡ fixed old
  pub keeps : (board : Board) (made : ℕ) → tells old board made → tells new board made
  pub made : (state new).made ≡ (state old).made
  pub stop : (state new).stop ≡ (state old).stop
  pub halt : (h : Halt) → (state old).halt ≡ Some h → (state new).halt ≡ Some h
  pub ended : (state old).ended ≡ true → (state new).ended ≡ true
  pub low : HasTold (tells new) (state old).seen (length (state old).made)

module _ {D F : Type 0} (state : D → DeskState) (fixed : D → F) (tells : D → Board → ℕ → Type 0) where
  pub shown-first : (d : D) → HasTold (tells d) (state d).seen (length (state d).made) → HasShown state fixed tells d d
  shown-first d told = record { same = refl; keeps = λ board made t. t; made = refl; stop = refl; halt = λ h is. is; ended = λ is. is; low = told }

  pub shown-more : (old d new : D) (board : Board) → HasShown state fixed tells old d → fixed new ≡ fixed d → WasShown board (state d) (state new)
      → ((b : Board) (made : ℕ) → tells d b made → tells new b made) → HasShown state fixed tells old new
  shown-more old d new board before same shown keeps = record {
    same = same ∙ before.same;
    keeps = λ b made t. keeps b made (before.keeps b made t);
    made = shown.made ∙ before.made;
    stop = shown.stop ∙ before.stop;
    halt = λ h is. shown.halt h (before.halt h is);
    ended = λ is. shown.ended (before.ended is);
    low = record { board = before.low.board; length_is = before.low.length_is; told = keeps before.low.board (length (state old).made) before.low.told };
  }

  pub caught : (caller : F → ℕ) (sight : Sight) (old new : D) → HasShown state fixed tells old new → HasTold (tells new) (state new).seen (length (state new).made)
      → IsOwnStopped (caller (fixed new)) (state new) → sight.seen ≤ (state new).seen → (sight.halted ≡ true → (h : Halt) × ((state new).halt ≡ Some h)) → CaughtUp state fixed caller tells sight old new
  caught caller sight old new shown told own seen halted = record {
    same = shown.same;
    keeps = shown.keeps;
    made = shown.made;
    stop = shown.stop;
    halt = shown.halt;
    ended = shown.ended;
    low = shown.low;
    high = subst (λ (es : List Event). HasTold (tells new) (state new).seen (length es)) shown.made told;
    seen = seen;
    halted = halted;
    own = own;
  }

-- the same of what is the same
pub caught-at : {D F : Type 0} (state : D → DeskState) (fixed : D → F) (caller : F → ℕ) (tells : D → Board → ℕ → Type 0) (s t : Sight) (a b new : D)
    → CaughtUp state fixed caller tells s a new → s ≡ t → a ≡ b → CaughtUp state fixed caller tells t b new
caught-at state fixed caller tells s t a b new caught_up same_sight same_desk =
    subst (λ (u : Sight). CaughtUp state fixed caller tells u b new) same_sight (subst (λ x. CaughtUp state fixed caller tells s x new) same_desk caught_up)
