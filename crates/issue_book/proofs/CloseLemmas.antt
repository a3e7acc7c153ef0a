-- The fills of a close by the answer of its attempt.
use Rattle.std.proofs.Common.{◌≡◌, ℕ, Bool, true, false, cond, eqb, IsTrue, refl, sym, ap, ◌∙◌}
use Rattle.std.specs.List.{list_any}
use Rattle.std.proofs.lemmas.Bool.{and_parts, eqb-true}
use Rattle.mkt_base.specs.Book.{above, below, buys, price_at, sells, sums_at}
use Rattle.mkt_base.specs.Priority.{is_same_side}
use Rattle.mkt_base.specs.declared.auction.Outcome.{Outcome}
use Rattle.mkt_base.specs.declared.auction.Outcome.TheVariants as outcomes
use Rattle.mkt_base.specs.declared.order.Side.{Side}
use Rattle.mkt_base.specs.declared.order.Side.TheVariants.{Buy, Sell}
use Rattle.auction_law.specs.Attempt.{IsAuction}
use Rattle.itayose.specs.Answer.{outcome_of, price_there}
use Rattle.itayose.specs.Fills.{allotted_fills, is_longer, limit_position}
use Rattle.itayose.specs.declared.positions.Attempt.{Attempt}
use Rattle.itayose.specs.declared.positions.Attempt.TheVariants.{Traded, Calm, Pressed}
use Rattle.quote_law.specs.Quotes.{daily_limit, opposite}
use Rattle.issue_book.specs.Closing.{end_of}
use Rattle.issue_book.specs.Fills.{fills_at, shared_out}
use Rattle.issue_book.specs.Holding.{tried_at}
use Rattle.issue_book.specs.Quoting.{answer_at, settle_at}
use Rattle.issue_book.specs.Sessions.{close_fills, close_margin, is_allotted}
use Rattle.issue_book.specs.State.{Move, State, Terms, stay}
use Rattle.issue_book.specs.declared.window.Window.{Window}
use Rattle.issue_book.proofs.ClosingLemmas.{buy-longer, limit-price, sell-longer}

module _ (t : Terms) (s : State) where
  -- where it trades
  pub close-traded : (volume p : ℕ) (o : Outcome) → outcomes.Traded volume (sums_at t.grid s.orders p) ≡ o → close_fills t o s ≡ fills_at t (close_margin t p s) p s
  close-traded volume p o e = ap (λ x. close_fills t x s) (sym e)

  -- where it is calm
  pub close-calm : (lo hi : ℕ) (a : Attempt) (o : Outcome) → outcome_of t.grid s.orders lo hi a ≡ o → ((at volume : ℕ) → a ≡ Traded at volume → ⊥) → ((side : Side) → a ≡ Pressed side → ⊥)
      → close_fills t o s ≡ stay s
  close-calm lo hi (Traded at volume) o e other none = absurd (other at volume refl)
  close-calm lo hi (Calm bid ask) o e other none = ap (λ x. close_fills t x s) (sym e)
  close-calm lo hi (Pressed side) o e other none = absurd (none side refl)

  -- a side that presses does so at its end of the window
  pressed-is : (w : Window) (side : Side) → (pressing : ℕ) × (facing : ℕ)
      × (outcome_of t.grid s.orders w.lo w.hi (Pressed side) ≡ outcomes.Pressed side (price_there t.grid (end_of side w)) pressing facing)
  pressed-is w Buy = (above t.grid s.orders (price_at t.grid w.hi), sells t.grid s.orders (price_at t.grid w.hi), refl)
  pressed-is w Sell = (below t.grid s.orders (price_at t.grid w.lo), buys t.grid s.orders (price_at t.grid w.lo), refl)

  module _ (w : Window) (side : Side) (o : Outcome) (e : outcome_of t.grid s.orders w.lo w.hi (Pressed side) ≡ o) where
    shown : o ≡ outcomes.Pressed side (price_there t.grid (end_of side w)) (pressed-is w side).0 (pressed-is w side).1
    shown = sym e ∙ (pressed-is w side).2

    chosen-by : Bool → Move
    chosen-by b = cond b (settle_at (price_at t.grid (end_of side w)) (allotted_fills t.grid s.orders side t.rounds t.unit) s) (stay s)

    -- and is not allotted
    pub close-left : is_allotted t side (price_at t.grid (end_of side w)) s ≡ false → close_fills t o s ≡ stay s
    unfolding chosen-by
    close-left none = ap (λ x. close_fills t x s) shown ∙ ap chosen-by none

    -- or is
    pub limit-there : is_allotted t side (price_at t.grid (end_of side w)) s ≡ true → price_at t.grid (end_of side w) ≡ price_at t.grid (limit_position t.grid side)
    limit-there some =
        let parts = and_parts (eqb (price_at t.grid (end_of side w)) (daily_limit t.grid side)) (list_any (λ x. is_same_side (opposite side) x.side) s.orders) some in
        eqb-true _ _ parts.0 ∙ sym (limit-price t.grid side)

    pub close-shared : is_allotted t side (price_at t.grid (end_of side w)) s ≡ true → close_fills t o s ≡ shared_out t side s
    unfolding chosen-by
    close-shared some =
        ap (λ x. close_fills t x s) shown ∙ ap chosen-by some
        ∙ ap (λ p. settle_at p (allotted_fills t.grid s.orders side t.rounds t.unit) s) (limit-there some)

  -- it has more there than the other side
  pub presses : (w : Window) (side : Side) → IsAuction t.grid s.orders w.reference w.lo w.hi → outcome_of t.grid s.orders w.lo w.hi (Pressed side) ≡ answer_at t (tried_at t.grid w) s
      → IsTrue (is_longer t.grid s.orders (price_at t.grid (end_of side w)) side)
  presses w Buy auction e = buy-longer t.grid s.orders w.reference w.lo w.hi auction _ _ _ (sym e)
  presses w Sell auction e = sell-longer t.grid s.orders w.reference w.lo w.hi auction _ _ _ (sym e)
