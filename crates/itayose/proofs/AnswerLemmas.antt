-- What an attempt over a book answers, by the tests that were made.
use Rattle.std.proofs.Common.{◌≡◌, ℕ, ◌<◌, ◌≤◌, List, Bool, true, false, cond, nat_lt, IsSome, length, refl, sym, ap, subst, ◌∙◌, ltb-true}
use Rattle.mkt_base.specs.Book.{price_at, above, sells, sums_at}
use Rattle.mkt_base.specs.declared.auction.Outcome.TheVariants as outcomes
use Rattle.mkt_base.specs.declared.auction.Sums.{Sums}
use Rattle.mkt_base.specs.declared.order.Order.{Order}
use Rattle.mkt_base.specs.declared.units.Price.{Price}
use Rattle.auction_law.specs.Attempt.{IsAuction, attempt, best_ask, best_bid, chosen, is_calm, is_traded, meets, pressed_buy, pressed_sell, volume_at}
use Rattle.auction_law.proofs.AttemptLemmas.{attempt-calm, attempt-not_traded, attempt-pressed_buy, attempt-traded, otherwise-traded}
use Rattle.auction_law.proofs.TradedLemmas.{chosen-meets, traded-chosen}
use Rattle.book_law.specs.BookView.{BookView, IsBookView, IsGridOf, orders}
use Rattle.book_law.proofs.FrontLemmas.{orders-left}
use Rattle.itayose.specs.Walk.{sums_of}
use Rattle.itayose.proofs.SumLemmas.{orders-on_grid}

module _ (b : BookView) (grid : List Price) (reference lo hi : ℕ) (stands : IsBookView b) (of : IsGridOf b grid) (from_lo : lo ≤ reference) (to_hi : reference ≤ hi) (in_range : hi < length grid) where
  -- the auction of the book
  pub is_auction : IsAuction grid (orders b) reference lo hi
  is_auction = record {
    rising = of.rising;
    on_grid = orders-on_grid b grid stands of.size;
    left = orders-left b stands;
    from_lo = from_lo;
    to_hi = to_hi;
    in_range = in_range;
  }

  -- where it is not calm, and no side presses, it trades
  pub book-traded : is_calm grid (orders b) ≡ false → (high low : Sums) → high ≡ sums_of b grid hi → low ≡ sums_of b grid lo → high.above ≤ high.sells → low.below ≤ low.buys
      → is_traded grid (orders b) (price_at grid reference) (price_at grid lo) (price_at grid hi) ≡ true
  book-traded c high low e f h l =
      otherwise-traded grid (orders b) reference lo hi is_auction c
      (subst (λ s. s.above ≤ s.sells) e h) (subst (λ s. s.below ≤ s.buys) f l)

  -- and then a price is chosen
  pub book-chosen : is_traded grid (orders b) (price_at grid reference) (price_at grid lo) (price_at grid hi) ≡ true → IsSome (chosen grid (orders b) (price_at grid reference))
  book-chosen t = let w = traded-chosen grid (orders b) (price_at grid reference) (price_at grid lo) (price_at grid hi) t in subst IsSome (sym w.1) refl

-- an answer that trades, where it is the attempt's, meets the three conditions
pub traded-meets : (grid : List Price) (os : List Order) (r lo hi at volume : ℕ) → outcomes.Traded volume (sums_at grid os (price_at grid at)) ≡ attempt grid os r lo hi → meets grid os (price_at grid at) ≡ true
traded-meets grid os r lo hi at volume e = by (is_traded grid os r lo hi) refl (is_calm grid os) refl (nat_lt (sells grid os hi) (above grid os hi)) refl
  where
    by : (t : Bool) → is_traded grid os r lo hi ≡ t → (c : Bool) → is_calm grid os ≡ c → (b : Bool) → nat_lt (sells grid os hi) (above grid os hi) ≡ b → meets grid os (price_at grid at) ≡ true
    by true t c d b f =
        let w = traded-chosen grid os r lo hi t in
        let same : outcomes.Traded volume (sums_at grid os (price_at grid at)) ≡ outcomes.Traded (volume_at grid os w.0) (sums_at grid os w.0) = e ∙ attempt-traded grid os r lo hi w.0 w.1 t in
        let sums : sums_at grid os (price_at grid at) ≡ sums_at grid os w.0 = cc in
        let price : price_at grid at ≡ w.0 = ap (λ s. s.price.0) sums in
        ap (meets grid os) price ∙ chosen-meets grid os r w.0 w.1
    by false t true d b f = let same = e ∙ attempt-calm grid os r lo hi d in absurd (cc)
    by false t false d true f = let same = e ∙ attempt-pressed_buy grid os r lo hi d (ltb-true _ _ f) in absurd (cc)
    by false t false d false f = let same = e ∙ attempt-not_traded grid os r lo hi t ∙ ap (λ c. cond c (outcomes.Calm (best_bid grid os) (best_ask grid os)) (cond (nat_lt (sells grid os hi) (above grid os hi)) (pressed_buy grid os hi) (pressed_sell grid os lo))) d ∙ ap (λ b. cond b (pressed_buy grid os hi) (pressed_sell grid os lo)) f in absurd (cc)
