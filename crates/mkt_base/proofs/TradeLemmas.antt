-- The book after trades.
use Rattle.std.proofs.Common.{◌≡◌, ℕ, ◌+◌, Bool, true, false, cond, ltb, eqb, ◌||◌, List, [], ◌∷◌, ◌++◌, map, filter, refl, sym, ap, ◌∙◌, arith}
use Rattle.std.proofs.lemmas.List.Sums.{sum_by-append}
use Rattle.std.proofs.lemmas.Bool.Decides.{nat_tests}
use Rattle.mkt_base.specs.Fills.{after_trades, less_traded, traded_at}
use Rattle.mkt_base.specs.declared.auction.Trade.{Trade}
use Rattle.mkt_base.specs.declared.order.Order.{Order}

module _ (first more : List Trade) where
  -- what trades take from a place adds up
  both-traded : (place : ℕ) → traded_at (first ++ more) place ≡ traded_at first place + traded_at more place
  unfolding traded_at
  both-traded place = sum_by-append (λ t. cond (eqb place t.buy || eqb place t.sell) t.qty 0) first more

  left-twice : (o : Order) → (less_traded more (less_traded first o)).left ≡ (less_traded (first ++ more) o).left
  left-twice o = let both = both-traded o.place in omega arith

  less-twice : (o : Order) → less_traded more (less_traded first o) ≡ less_traded (first ++ more) o
  less-twice o = ap (λ n. record o { left = n }) (left-twice o)

  has-left : Order → Bool
  has-left o = ltb 0 o.left

  -- an order that the first trades leave nothing has nothing after all of them
  none-left : (o : Order) → ltb 0 (less_traded first o).left ≡ false → ltb 0 (less_traded (first ++ more) o).left ≡ false
  none-left o e = let both = both-traded o.place in grind (arith, nat_tests, e, both)

  step : (b : Bool) (o : Order) (os : List Order) → ltb 0 (less_traded first o).left ≡ b → after_trades more (after_trades first os) ≡ after_trades (first ++ more) os
      → filter (λ x. ltb 0 x.left) (map (less_traded more) (cond b (less_traded first o ∷ after_trades first os) (after_trades first os))) ≡ after_trades (first ++ more) (o ∷ os)
  unfolding after_trades
  step true o os e rest =
      ap (λ x. cond (ltb 0 x.left) (x ∷ after_trades more (after_trades first os)) (after_trades more (after_trades first os))) (less-twice o)
      ∙ ap (λ xs. cond (ltb 0 (less_traded (first ++ more) o).left) (less_traded (first ++ more) o ∷ xs) xs) rest
  step false o os e rest =
      rest ∙ ap (λ b. cond b (less_traded (first ++ more) o ∷ after_trades (first ++ more) os) (after_trades (first ++ more) os)) (sym (none-left o e))

  -- trades in turn, and all at once
  pub trades-twice : (orders : List Order) → after_trades more (after_trades first orders) ≡ after_trades (first ++ more) orders
  unfolding after_trades
  trades-twice [] = refl
  trades-twice (o ∷ os) = step (ltb 0 (less_traded first o).left) o os refl (trades-twice os)
