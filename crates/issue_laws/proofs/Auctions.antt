-- Auctions of an issue and its quotes: what an answer says, and what the fills keep.
use Rattle.std.proofs.Common.{◌≡◌, ℕ, suc, ◌-◌, ◌<◌, ◌≤◌, Bool, true, false, cond, eqb, nat_le, ◌&&◌, inl, inr, List, [], ◌∷◌, ◌++◌, length, map, Option, Some, None, refl, sym, subst, ◌∙◌, arith}
use Rattle.std.specs.List.{AllByRecursion, AllPairs, list_any}
use Rattle.std.specs.Option.{option_map_or}
use Rattle.std.proofs.lemmas.Bool.{and_parts, eqb-true}
use Rattle.std.proofs.lemmas.List.Elements.{All-from_recursion}
use Rattle.std.proofs.lemmas.List.Kept.{AllPairs-cons}
use Rattle.mkt_base.specs.Book.{price_at}
use Rattle.mkt_base.specs.Fills.{Fill, bought_by, filled, from_front, less_front, pair}
use Rattle.mkt_base.specs.Priority.{is_same_side}
use Rattle.mkt_base.specs.declared.auction.Outcome.{Outcome}
use Rattle.mkt_base.specs.declared.auction.Outcome.TheVariants.{Traded, Calm, Pressed}
use Rattle.mkt_base.specs.declared.auction.Sums.{Sums}
use Rattle.mkt_base.specs.declared.event.Phase.{Phase}
use Rattle.mkt_base.specs.declared.event.Phase.TheVariants.{Idle, Collecting, Trading}
use Rattle.mkt_base.specs.declared.order.Order.{Order}
use Rattle.mkt_base.specs.declared.order.Side.{Side}
use Rattle.mkt_base.specs.declared.order.Side.TheVariants.{Buy, Sell}
use Rattle.mkt_base.specs.declared.output.Output.TheVariants as outputs
use Rattle.mkt_base.specs.declared.quote.Quote.{Quote}
use Rattle.mkt_base.specs.declared.units.Price.{Price}
use Rattle.auction_law.specs.Attempt.{attempt, best_ask, best_bid, certificate_of, chosen, is_calm, meets, not_traded, pressed_buy, pressed_sell, traded_outcome, within}
use Rattle.auction_law.specs.Nearness.{prices_of}
use Rattle.auction_law.proofs.NearnessLemmas.{IsIn}
use Rattle.auction_law.proofs.TradedLemmas.{chosen-in, chosen-meets}
use Rattle.book_law.specs.Laws.{IsBookOn}
use Rattle.book_law.specs.BookView.{IsSpotBelow}
use Rattle.book_law.proofs.Pairs.{Pairs, all-append}
use Rattle.itayose.specs.Answer.{auction_outputs}
use Rattle.itayose.specs.Fills.{allotted_fills, auction_fills, limit_position, pair_side}
use Rattle.itayose.specs.Laws.{CalmAfterwards}
use Rattle.itayose.specs.declared.margin.Margin.{Margin}
use Rattle.itayose.specs.declared.margin.Margin.TheVariants.{Time}
use Rattle.quote_law.specs.Quotes.{after_event, at_due, daily_limit, opposite}
use Rattle.tick_grid.specs.Grid.{IsGrid}
use Rattle.session_phase.specs.declared.session.Boundary.{Boundary}
use Rattle.session_phase.specs.declared.session.Boundary.TheVariants.{Accept, Begin, Finish}
use Rattle.issue_book.specs.IssueView.{IsPriceOf}
use Rattle.issue_book.specs.Quoting.{Tried, answer_at, due_by, fill, held, is_trading, moved, new_special, presses, serve, served, settle_at, show_quote, tell_auction, tried, tried_by, try_if_shown, try_quote, try_shown}
use Rattle.issue_book.specs.Sessions.{around_last, at_boundary, close_fills, close_margin, close_trading, close_window, end_quote, end_shown, enter_phase, held_close, is_allotted, open_trading, opened, quote_pressed, step_at}
use Rattle.issue_book.specs.State.{Move, State, Terms, stay, ◌then◌}
use Rattle.issue_laws.specs.Brought.{trades_in}
use Rattle.issue_laws.proofs.Standing.{IsFine, IsGood, Stands, StaysCalm, fine-put, fine-quote, fine-settle, fine-stay, fine-then}

-- ---- what an answer says

-- where it trades, its price meets the conditions and is one of the grid; where it is calm, the book is
abbrev pub IsAnswered : List Price → List Order → Outcome → Type 0
IsAnswered grid os (Traded volume sums) = (meets grid os sums.price.0 ≡ true) × IsPriceOf grid sums.price.0
IsAnswered grid os (Calm bid ask) = is_calm grid os ≡ true
IsAnswered grid os (Pressed side price pressing facing) = Unit {0}

price-of : (grid : List Price) (p : ℕ) → IsIn p (prices_of grid) → IsPriceOf grid p
unfolding IsIn
price-of [] p i = absurd i
price-of (x ∷ xs) p i = elim i [
  | inl e ↦ (0, omega arith, sym e)
  | inr j ↦ let w : IsPriceOf xs p = price-of xs p j in (suc w.0, omega (arith, w.1), w.2)
]

module _ (grid : List Price) (os : List Order) where
  no-trade : (lo hi : ℕ) (b c : Bool) → is_calm grid os ≡ b → IsAnswered grid os (cond b (Calm (best_bid grid os) (best_ask grid os)) (cond c (pressed_buy grid os hi) (pressed_sell grid os lo)))
  no-trade lo hi true c e = e
  no-trade lo hi false true e = tt
  no-trade lo hi false false e = tt

  not-traded : (lo hi : ℕ) → IsAnswered grid os (not_traded grid os lo hi)
  not-traded lo hi = no-trade lo hi (is_calm grid os) _ refl

  within-answered : (lo hi : ℕ) (c : Option ℕ) → ((p : ℕ) → c ≡ Some p → IsAnswered grid os (traded_outcome grid os p))
      → IsAnswered grid os (option_map_or (traded_outcome grid os) (within lo hi c) (not_traded grid os lo hi))
  within-answered lo hi None h = not-traded lo hi
  within-answered lo hi (Some p) h = step (nat_le lo p && nat_le p hi)
    where
      step : (b : Bool) → IsAnswered grid os (option_map_or (traded_outcome grid os) (cond b (Some p) None) (not_traded grid os lo hi))
      step true = h p refl
      step false = not-traded lo hi

  pub answered : (r lo hi : ℕ) → IsAnswered grid os (attempt grid os r lo hi)
  unfolding attempt
  answered r lo hi = within-answered lo hi (chosen grid os r) (λ p e. (chosen-meets grid os r p e, price-of grid p (chosen-in grid os r p e)))

-- ---- trades at one price

bought-at : (p buy : ℕ) (fs : List Fill) → AllByRecursion (λ x. x.price.0 ≡ p) (map (bought_by p buy) fs)
bought-at p buy [] = tt
bought-at p buy (f ∷ fs) = (refl, bought-at p buy fs)

paired-at : (p : ℕ) (bs ss : List Fill) → AllByRecursion (λ x. x.price.0 ≡ p) (pair p bs ss)
unfolding pair
paired-at p [] ss = tt
paired-at p (b ∷ bs) ss =
    all-append (λ x. x.price.0 ≡ p) (map (bought_by p b.place) (filled (from_front b.qty ss))) (pair p bs (less_front b.qty ss)) (bought-at p b.place (filled (from_front b.qty ss))) (paired-at p bs (less_front b.qty ss))

sided-at : (p : ℕ) (side : Side) (fs gs : List Fill) → AllByRecursion (λ x. x.price.0 ≡ p) (pair_side p side fs gs)
sided-at p Buy fs gs = paired-at p fs gs
sided-at p Sell fs gs = paired-at p gs fs

-- ---- an auction is told without trades

no-rejected : (ss : List Sums) (outcome : Outcome) → trades_in (map (λ s. outputs.Rejected s) ss ++ outputs.Answer outcome ∷ []) ≡ []
no-rejected [] outcome = refl
no-rejected (s ∷ ss) outcome = no-rejected ss outcome

pub none-told : (grid : List Price) (os : List Order) (r lo hi : ℕ) (outcome : Outcome) → trades_in (auction_outputs grid os r lo hi outcome) ≡ []
none-told grid os r lo hi outcome = no-rejected (certificate_of grid os r outcome).rejected (certificate_of grid os r outcome).outcome

-- ---- a book by its places

pub all-pairs : {X : Type 0} (R : X → X → Type 0) (xs : List X) → Pairs R xs → AllPairs R xs
all-pairs R [] pairs = λ i j d h k. absurd (omega arith)
all-pairs R (x ∷ xs) pairs = AllPairs-cons R x xs (All-from_recursion (R x) xs pairs.0) (all-pairs R xs pairs.1)

pub book-on : (t : Terms) (n : ℕ) (s : State) → Stands t n s → IsBookOn (length t.grid) s.orders
book-on t n s stands = record {
  book = record { by_place = all-pairs (λ a b. a.place < b.place) s.orders stands.by_place; left = All-from_recursion (λ o. 0 < o.left) s.orders stands.some };
  spots = All-from_recursion (λ o. IsSpotBelow (length t.grid) o.spot) s.orders stands.spots;
}

-- ---- moves

module _ (calm_afterwards : CalmAfterwards) (t : Terms) (is : IsGrid t.grid) where
  pub fine-fill : (n : ℕ) (margin : Margin) (outcome : Outcome) (s : State) → IsAnswered t.grid s.orders outcome → Stands t n s → IsFine t n s (fill t margin outcome s)
  fine-fill n margin (Traded volume sums) s answer stands =
      fine-settle t n sums.price.0 (auction_fills t.grid s.orders sums.price.0 margin t.rounds t.unit) s stands answer.1
      (paired-at sums.price.0 _ _)
  fine-fill n margin (Calm bid ask) s answer stands = fine-stay t n s stands
  fine-fill n margin (Pressed side price pressing facing) s answer stands = fine-stay t n s stands

  fine-told : (n : ℕ) (w : Tried) (outcome : Outcome) (s : State) → Stands t n s → IsFine t n s (tell_auction t w outcome s)
  fine-told n w outcome s stands = fine-put t n s (auction_outputs t.grid s.orders w.reference w.lo w.hi outcome) (none-told t.grid s.orders w.reference w.lo w.hi outcome) stands

  pub fine-held : (n : ℕ) (w : Tried) (outcome : Outcome) (s : State) → IsAnswered t.grid s.orders outcome → Stands t n s → IsFine t n s (held t w outcome s)
  fine-held n w outcome s answer stands =
      fine-then t n s (tell_auction t w outcome s) (fill t Time outcome) (fine-told n w outcome s stands) (fine-fill n Time outcome s answer stands)

  -- after fills by time the book is calm
  traded-calm : (n : ℕ) (w : Tried) (volume : ℕ) (sums : Sums) (s : State) → IsAnswered t.grid s.orders (Traded volume sums) → Stands t n s
      → is_calm t.grid (held t w (Traded volume sums) s).state.orders ≡ true
  traded-calm n w volume sums s answer stands = calm_afterwards t.grid s.orders sums.price.0 (record { rising = is.rising; book = book-on t n s stands; met = answer.0 })

  -- a quote is tried
  quote-stays : (b : Bool) (q fresh : Quote) → cond b (Some q) (Some fresh) ≡ None → ⊥
  quote-stays true q fresh e = absurd (cc)
  quote-stays false q fresh e = absurd (cc)

  pub calm-tried : (n : ℕ) (q : Quote) (w : Tried) (s : State) (outcome : Outcome) → IsAnswered t.grid s.orders outcome → Stands t n s → StaysCalm t s → StaysCalm t (tried t q w s outcome).state
  calm-tried n q w s (Traded volume sums) answer stands calm = λ phase quote. traded-calm n w volume sums s answer stands
  calm-tried n q w s (Calm bid ask) answer stands calm = λ phase quote. answer
  calm-tried n q w s (Pressed side price pressing facing) answer stands calm = by (is_same_side side q.side)
    where
      by : (b : Bool) → StaysCalm t (cond b (stay s) (held t w (Pressed side price pressing facing) s then show_quote (cond (is_same_side side q.side) (Some q) (Some (new_special t (opposite q.side) s))))).state
      by true = calm
      by false = λ phase quote. absurd (quote-stays (is_same_side side q.side) q (new_special t (opposite q.side) s) quote)

  pub fine-tried : (n : ℕ) (q : Quote) (w : Tried) (s : State) (outcome : Outcome) → IsAnswered t.grid s.orders outcome → Stands t n s → IsFine t n s (tried t q w s outcome)
  fine-tried n q w s outcome answer stands = by (presses q.side outcome)
    where
      by : (b : Bool) → IsFine t n s (cond b (stay s) (held t w outcome s then show_quote (after_event q outcome (new_special t (opposite q.side) s))))
      by true = fine-stay t n s stands
      by false =
          let first = fine-held n w outcome s answer stands in
          fine-then t n s (held t w outcome s) (show_quote (after_event q outcome (new_special t (opposite q.side) s))) first
          (fine-quote t n (after_event q outcome (new_special t (opposite q.side) s)) (held t w outcome s).state first.stands)

  good-shown : (n : ℕ) (q : Quote) (s : State) → Stands t n s → StaysCalm t s → IsGood t n s (try_shown t q s)
  good-shown n q s stands calm =
      let w = tried_by t q s in
      let answer = answered t.grid s.orders w.reference w.lo w.hi in
      record { fine = fine-tried n q w s (answer_at t w s) answer stands; calm = calm-tried n q w s (answer_at t w s) answer stands calm }

  good-if_shown : (n : ℕ) (q : Option Quote) (s : State) → Stands t n s → StaysCalm t s → IsGood t n s (try_if_shown t q s)
  good-if_shown n None s stands calm = record { fine = fine-stay t n s stands; calm = calm }
  good-if_shown n (Some q) s stands calm = good-shown n q s stands calm

  pub good-try : (n : ℕ) (s : State) → Stands t n s → StaysCalm t s → IsGood t n s (try_quote t s)
  good-try n s stands calm = by (is_trading s.phase)
    where
      by : (b : Bool) → IsGood t n s (cond b (try_if_shown t s.quote s) (stay s))
      by true = good-if_shown n s.quote s stands calm
      by false = record { fine = fine-stay t n s stands; calm = calm }

  -- a quote at its due moment
  calm-served : (n : ℕ) (q : Quote) (w : Tried) (s : State) (outcome : Outcome) → IsAnswered t.grid s.orders outcome → Stands t n s → StaysCalm t (served t q w s outcome).state
  calm-served n q w s (Traded volume sums) answer stands = λ phase quote. traded-calm n w volume sums s answer stands
  calm-served n q w s (Calm bid ask) answer stands = λ phase quote. answer
  calm-served n q w s (Pressed side price pressing facing) answer stands = λ phase quote. absurd (quote-stays (is_same_side side q.side) (moved t q s) (new_special t (opposite q.side) s) quote)

  pub good-serve : (n : ℕ) (q : Quote) (s : State) → Stands t n s → IsGood t n s (serve t q s)
  good-serve n q s stands =
      let w = due_by t q s in
      let outcome = answer_at t w s in
      let answer = answered t.grid s.orders w.reference w.lo w.hi in
      let next = at_due q outcome (moved t q s) (new_special t (opposite q.side) s) in
      let first = fine-held n w outcome s answer stands in
      record {
        fine = fine-then t n s (held t w outcome s) (show_quote next) first (fine-quote t n next (held t w outcome s).state first.stands);
        calm = calm-served n q w s outcome answer stands;
      }

  -- ---- the opening

  fine-pressed : (n : ℕ) (outcome : Outcome) (s : State) → Stands t n s → IsFine t n s (quote_pressed t outcome s)
  fine-pressed n (Traded volume sums) s stands = fine-stay t n s stands
  fine-pressed n (Calm bid ask) s stands = fine-stay t n s stands
  fine-pressed n (Pressed side price pressing facing) s stands = fine-quote t n (Some (new_special t side s)) s stands

  calm-opened : (n : ℕ) (w : Tried) (s : State) (outcome : Outcome) → IsAnswered t.grid s.orders outcome → Stands t n s → StaysCalm t (opened t w s outcome).state
  calm-opened n w s (Traded volume sums) answer stands = λ phase quote. traded-calm n w volume sums s answer stands
  calm-opened n w s (Calm bid ask) answer stands = λ phase quote. answer
  calm-opened n w s (Pressed side price pressing facing) answer stands = λ phase quote. absurd (let shown = quote in cc)

  good-open : (n : ℕ) (s : State) → Stands t n s → IsGood t n s (open_trading t s)
  good-open n s stands =
      let w = around_last t s in
      let outcome = answer_at t w s in
      let answer = answered t.grid s.orders w.reference w.lo w.hi in
      let first = fine-held n w outcome s answer stands in
      record {
        fine = fine-then t n s (held t w outcome s) (quote_pressed t outcome) first (fine-pressed n outcome (held t w outcome s).state first.stands);
        calm = calm-opened n w s outcome answer stands;
      }

  -- ---- the close

  limit-price : (side : Side) → IsPriceOf t.grid (daily_limit t.grid side)
  limit-price Buy = let some : 1 ≤ length t.grid = is.some in (length t.grid - 1, omega arith, refl)
  limit-price Sell = let some : 1 ≤ length t.grid = is.some in (0, omega arith, refl)

  limit-same : (side : Side) → price_at t.grid (limit_position t.grid side) ≡ daily_limit t.grid side
  limit-same Buy = refl
  limit-same Sell = refl

  fine-allotted : (n : ℕ) (side : Side) (p : ℕ) (s : State) → Stands t n s → (b : Bool) → is_allotted t side p s ≡ b
      → IsFine t n s (cond b (settle_at p (allotted_fills t.grid s.orders side t.rounds t.unit) s) (stay s))
  fine-allotted n side p s stands true e =
      let here = eqb-true p (daily_limit t.grid side) (and_parts (eqb p (daily_limit t.grid side)) (list_any (λ o. is_same_side (opposite side) o.side) s.orders) e).0 in
      fine-settle t n p (allotted_fills t.grid s.orders side t.rounds t.unit) s stands (subst (IsPriceOf t.grid) (sym here) (limit-price side))
      (subst (λ r. AllByRecursion (λ x. x.price.0 ≡ r) (allotted_fills t.grid s.orders side t.rounds t.unit).trades) (limit-same side ∙ sym here) (sided-at (price_at t.grid (limit_position t.grid side)) side _ _))
  fine-allotted n side p s stands false e = fine-stay t n s stands

  fine-close : (n : ℕ) (outcome : Outcome) (s : State) → IsAnswered t.grid s.orders outcome → Stands t n s → IsFine t n s (close_fills t outcome s)
  fine-close n (Traded volume sums) s answer stands = fine-fill n (close_margin t sums.price.0 s) (Traded volume sums) s answer stands
  fine-close n (Calm bid ask) s answer stands = fine-stay t n s stands
  fine-close n (Pressed side price pressing facing) s answer stands = fine-allotted n side price.0 s stands (is_allotted t side price.0 s) refl

  fine-ended : (n : ℕ) (q : Option Quote) (s : State) → Stands t n s → IsFine t n s (end_shown q s)
  fine-ended n None s stands = fine-stay t n s stands
  fine-ended n (Some q) s stands = fine-quote t n None s stands

  fine-closed : (n : ℕ) (s : State) → Stands t n s → IsFine t n s (close_trading t s)
  fine-closed n s stands =
      let w = close_window t s.quote s in
      let outcome = answer_at t w s in
      let answer = answered t.grid s.orders w.reference w.lo w.hi in
      let filled = fine-then t n s (tell_auction t w outcome s) (close_fills t outcome) (fine-told n w outcome s stands) (fine-close n outcome s answer stands) in
      let after = (held_close t w outcome s).state in
      fine-then t n s (held_close t w outcome s) end_quote filled (fine-ended n after.quote after filled.stands)

  fine-phase : (n : ℕ) (phase : Phase) (s : State) → Stands t n s → IsFine t n s (enter_phase phase s)
  fine-phase n phase s stands = record {
    stands = record { by_place = stands.by_place; below = stands.below; some = stands.some; spots = stands.spots; last = stands.last };
    priced = tt;
    entries = refl;
  }

  pub good-boundary : (n : ℕ) (boundary : Boundary) (s : State) → Stands t n s → IsGood t n s (at_boundary t boundary s)
  good-boundary n Accept s stands = record { fine = fine-phase n Collecting s stands; calm = λ phase quote. absurd (let other = phase in cc) }
  good-boundary n Begin s stands =
      let first = fine-phase n Trading s stands in
      let opens = good-open n (enter_phase Trading s).state first.stands in
      record { fine = fine-then t n s (enter_phase Trading s) (open_trading t) first opens.fine; calm = opens.calm }
  good-boundary n Finish s stands =
      let first = fine-closed n s stands in
      let ends = fine-phase n Idle (close_trading t s).state first.stands in
      record { fine = fine-then t n s (close_trading t s) (enter_phase Idle) first ends; calm = λ phase quote. absurd (let other = phase in cc) }

  -- the clock stands at a moment, and then something is due
  pub good-step : (n at : ℕ) (does : State → Move) (s : State) → Stands t n s → ((u : State) → Stands t n u → IsGood t n u (does u)) → IsGood t n s (step_at at does s)
  good-step n at does s stands good =
      let now = record s { now = at } in
      let still : Stands t n now = record { by_place = stands.by_place; below = stands.below; some = stands.some; spots = stands.spots; last = stands.last } in
      let after = good now still in
      record {
        fine = record { stands = after.fine.stands; priced = after.fine.priced; entries = after.fine.entries };
        calm = after.calm;
      }
