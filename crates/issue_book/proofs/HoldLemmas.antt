-- An auction that is held: where it trades its fills follow what is told of it, and else nothing does.
use Rattle.std.proofs.Common.{◌≡◌, ℕ, Bool, true, false, cond, ltb, IsTrue, List, ◌++◌, Option, Some, None, append_assoc, append-nil, refl, sym, ap, subst, ◌∙◌}
use Rattle.std.specs.Option.{option_map_or}
use Rattle.mkt_base.specs.Book.{above, sells, sums_at}
use Rattle.mkt_base.specs.declared.auction.Outcome.{Outcome}
use Rattle.mkt_base.specs.declared.auction.Outcome.TheVariants as outcomes
use Rattle.mkt_base.specs.declared.order.Order.{Order}
use Rattle.mkt_base.specs.declared.order.Side.TheVariants.{Buy, Sell}
use Rattle.mkt_base.specs.declared.output.Output.{Output}
use Rattle.mkt_base.specs.declared.units.Caller.{Caller}
use Rattle.mkt_base.specs.declared.units.Price.{Price}
use Rattle.auction_law.specs.Attempt.{attempt, best_ask, best_bid, chosen, is_calm, not_traded, pressed_buy, pressed_sell, traded_outcome, within}
use Rattle.itayose.specs.Answer.{auction_outputs, outcome_of}
use Rattle.itayose.specs.declared.margin.Margin.TheVariants.{Time}
use Rattle.itayose.specs.declared.positions.Attempt.{Attempt}
use Rattle.itayose.specs.declared.positions.Attempt.TheVariants.{Traded, Calm, Pressed}
use Rattle.issue_book.specs.Filled.{IsFilled, IsKey, left_of}
use Rattle.issue_book.specs.Fills.{fills_at}
use Rattle.issue_book.specs.Holding.{is_pressed}
use Rattle.issue_book.specs.Quoting.{Tried, answer_at, fill, hold_at}
use Rattle.issue_book.specs.State.{State, Terms, behind, stay}
use Rattle.issue_book.proofs.FilledLemmas.{auction-told, behind-filled, stay-filled}

-- an attempt answers calm only where the book is calm
module _ (grid : List Price) (os : List Order) (bid ask : Option Price) where
  by-side : (b : Bool) (lo hi : ℕ) → cond b (pressed_buy grid os hi) (pressed_sell grid os lo) ≡ outcomes.Calm bid ask → is_calm grid os ≡ true
  by-side true lo hi e = absurd (cc)
  by-side false lo hi e = absurd (cc)

  by-calm : (b : Bool) (lo hi : ℕ) → is_calm grid os ≡ b
      → cond b (outcomes.Calm (best_bid grid os) (best_ask grid os)) (cond (ltb (sells grid os hi) (above grid os hi)) (pressed_buy grid os hi) (pressed_sell grid os lo)) ≡ outcomes.Calm bid ask
      → is_calm grid os ≡ true
  by-calm true lo hi calm e = calm
  by-calm false lo hi calm e = by-side (ltb (sells grid os hi) (above grid os hi)) lo hi e

  by-choice : (found : Option ℕ) (lo hi : ℕ) → option_map_or (traded_outcome grid os) found (not_traded grid os lo hi) ≡ outcomes.Calm bid ask → is_calm grid os ≡ true
  by-choice (Some p) lo hi e = absurd (cc)
  by-choice None lo hi e = by-calm (is_calm grid os) lo hi refl e

  pub calm-only : (reference lo hi : ℕ) → attempt grid os reference lo hi ≡ outcomes.Calm bid ask → is_calm grid os ≡ true
  unfolding attempt
  calm-only reference lo hi e = by-choice (within lo hi (chosen grid os reference)) lo hi e

module _ (t : Terms) (w : Tried) (s : State) where
  -- what is told of the auction
  abbrev pub told_at : List Output
  told_at = auction_outputs t.grid s.orders w.reference w.lo w.hi (answer_at t w s)

  -- where it trades at a price
  pub hold-traded : (volume p : ℕ) → answer_at t w s ≡ outcomes.Traded volume (sums_at t.grid s.orders p) → hold_at t w s ≡ behind told_at (fills_at t Time p s)
  hold-traded volume p e = ap (λ o. behind told_at (fill t Time o s)) e

  no-fill : (lo hi : ℕ) (a : Attempt) (o : Outcome) → outcome_of t.grid s.orders lo hi a ≡ o → ((at volume : ℕ) → a ≡ Traded at volume → ⊥) → fill t Time o s ≡ stay s
  no-fill lo hi (Traded at volume) o e other = absurd (other at volume refl)
  no-fill lo hi (Calm bid ask) o e other = subst (λ x. fill t Time x s ≡ stay s) e refl
  no-fill lo hi (Pressed Buy) o e other = subst (λ x. fill t Time x s ≡ stay s) e refl
  no-fill lo hi (Pressed Sell) o e other = subst (λ x. fill t Time x s ≡ stay s) e refl

  -- where it does not trade
  pub hold-still : (lo hi : ℕ) (a : Attempt) → outcome_of t.grid s.orders lo hi a ≡ answer_at t w s → ((at volume : ℕ) → a ≡ Traded at volume → ⊥) → hold_at t w s ≡ behind told_at (stay s)
  hold-still lo hi a e other = ap (behind told_at) (no-fill lo hi a (answer_at t w s) e other)

  -- a book where it neither trades nor a side presses is calm
  pub calm-still : (lo hi : ℕ) (a : Attempt) → outcome_of t.grid s.orders lo hi a ≡ answer_at t w s → ((at volume : ℕ) → a ≡ Traded at volume → ⊥)
      → is_pressed (answer_at t w s) ≡ false → IsTrue (is_calm t.grid s.orders)
  calm-still lo hi (Traded at volume) e other none = absurd (other at volume refl)
  calm-still lo hi (Calm bid ask) e other none = calm-only t.grid s.orders _ _ w.reference w.lo w.hi (sym e)
  calm-still lo hi (Pressed Buy) e other none = let no-side = ap is_pressed e ∙ none in absurd (cc)
  calm-still lo hi (Pressed Sell) e other none = let no-side = ap is_pressed e ∙ none in absurd (cc)

  -- what a watch was told of an auction that does not trade
  pub told-still : {W : Type 0} (took : W → List Output → W → Type 0) (lo hi : ℕ) (a : Attempt) → outcome_of t.grid s.orders lo hi a ≡ answer_at t w s → ((at volume : ℕ) → a ≡ Traded at volume → ⊥)
      → (from to : W) (outputs : List Output) → took from (outputs ++ told_at) to → took from (outputs ++ (hold_at t w s).outputs) to
  told-still took lo hi a e other from to outputs h =
      subst (λ m. took from (outputs ++ m.outputs) to) (sym (hold-still lo hi a e other)) (subst (λ xs. took from (outputs ++ xs) to) (sym (append-nil told_at)) h)

  -- and of one that does
  pub told-traded : {W : Type 0} (took : W → List Output → W → Type 0) (volume p : ℕ) → answer_at t w s ≡ outcomes.Traded volume (sums_at t.grid s.orders p)
      → (from to : W) (outputs : List Output) → took from ((outputs ++ told_at) ++ (fills_at t Time p s).outputs) to → took from (outputs ++ (hold_at t w s).outputs) to
  told-traded took volume p e from to outputs h =
      subst (λ m. took from (outputs ++ m.outputs) to) (sym (hold-traded volume p e))
      (subst (λ xs. took from xs to) (append_assoc outputs told_at (fills_at t Time p s).outputs) h)

  module _ (caller : Caller) (own place : ℕ) where
    pub filled-still : (lo hi : ℕ) (a : Attempt) → outcome_of t.grid s.orders lo hi a ≡ answer_at t w s → ((at volume : ℕ) → a ≡ Traded at volume → ⊥) → IsKey caller own place s.orders
        → IsFilled caller own place (left_of caller own s) (hold_at t w s)
    filled-still lo hi a e other keys =
        subst (λ m. IsFilled caller own place (left_of caller own s) m) (sym (hold-still lo hi a e other))
        (behind-filled caller own place (left_of caller own s) told_at (stay s) (auction-told t.grid s.orders w.reference w.lo w.hi (answer_at t w s)) (stay-filled caller own place s keys))

    pub filled-traded : (volume p : ℕ) → answer_at t w s ≡ outcomes.Traded volume (sums_at t.grid s.orders p) → IsFilled caller own place (left_of caller own s) (fills_at t Time p s)
        → IsFilled caller own place (left_of caller own s) (hold_at t w s)
    filled-traded volume p e h =
        subst (λ m. IsFilled caller own place (left_of caller own s) m) (sym (hold-traded volume p e))
        (behind-filled caller own place (left_of caller own s) told_at (fills_at t Time p s) (auction-told t.grid s.orders w.reference w.lo w.hi (answer_at t w s)) h)
