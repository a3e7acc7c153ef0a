-- Each price on tick between the ends of a grid stands on it.
use Rattle.std.proofs.Common.{◌≡◌, ℕ, zero, suc, ◌+◌, ◌-◌, ◌<◌, ◌≤◌, Bool, true, false, cond, inl, inr, List, ◌∷◌, map, filter, refl, ap, subst, ◌∙◌, arith}
use Rattle.std.specs.List.{range_with_len}
use Rattle.std.proofs.lemmas.Bool.{cases_eq}
use Rattle.mkt_base.specs.declared.units.Price.{Price}
use Rattle.tick_grid.specs.Rows.{grid_of, is_on_tick, price_of, prices_on_tick}
use Rattle.tick_grid.specs.declared.rows.TickRow.{TickRow}
use Rattle.issue_book.specs.IssueView.{IsPriceOf}

module _ (p : ℕ → Bool) where
  -- the prices among n numbers from a on that pass
  abbrev passing : ℕ → ℕ → List Price
  passing a n = map price_of (filter p (range_with_len a n))

  more : (b : Bool) (a x : ℕ) (rest : List ℕ) → IsPriceOf (map price_of rest) x → IsPriceOf (map price_of (cond b (a ∷ rest) rest)) x
  more true a x rest (i, inside, is) = (suc i, omega arith, is)
  more false a x rest found = found

  here : (b : Bool) (a : ℕ) (rest : List ℕ) → b ≡ true → IsPriceOf (map price_of (cond b (a ∷ rest) rest)) a
  here true a rest e = (0, omega arith, refl)
  here false a rest e = absurd (cc)

  found : (a n x : ℕ) → p x ≡ true → a ≤ x → x < a + n → IsPriceOf (passing a n) x
  found a zero x e from to = absurd (omega arith)
  found a (suc n) x e from to =
      elim (cases_eq a x) [
        | inl same ↦ subst (λ y. IsPriceOf (passing a (suc n)) y) same (here (p a) a (filter p (range_with_len (a + 1) n)) (ap p same ∙ e))
        | inr other ↦ more (p a) a x (filter p (range_with_len (a + 1) n)) (found (a + 1) n x e (omega arith) (omega arith))
      ]

-- a price on tick stands on the grid between two ends around it
pub on-grid : (rows : List TickRow) (low high x : ℕ) → is_on_tick rows x ≡ true → low ≤ x → x ≤ high → IsPriceOf (grid_of rows low high) x
unfolding grid_of prices_on_tick
on-grid rows low high x e from to = found (is_on_tick rows) low (high + 1 - low) x e from (omega arith)
