-- What holds of an issue between its moves, and moves that keep it.
use Rattle.std.proofs.Common.{◌≡◌, ℕ, ◌<◌, Bool, true, false, cond, ltb, List, [], ◌∷◌, ◌++◌, length, Option, None, refl, sym, ap, subst, ◌∙◌, arith}
use Rattle.std.specs.List.{AllByRecursion}
use Rattle.std.proofs.lemmas.Bool.Decides.{nat_tests}
use Rattle.std.proofs.lemmas.List.Elements.{filter_map-append}
use Rattle.mkt_base.specs.Fills.{after_trades, less_traded}
use Rattle.mkt_base.specs.declared.auction.Trade.{Trade}
use Rattle.mkt_base.specs.declared.event.Phase.TheVariants.{Trading}
use Rattle.mkt_base.specs.declared.order.Order.{Order}
use Rattle.mkt_base.specs.declared.output.Output.{Output}
use Rattle.mkt_base.specs.declared.quote.Quote.{Quote}
use Rattle.auction_law.specs.Attempt.{is_calm}
use Rattle.book_law.specs.BookView.{IsSpotBelow}
use Rattle.book_law.proofs.Pairs.{Pairs, all-append}
use Rattle.zaraba.proofs.DoneLemmas.{kept-after}
use Rattle.itayose.specs.Fills.{Settlement, share_outputs, trade_outputs}
use Rattle.allotment.specs.declared.demand.Demand.{Demand}
use Rattle.issue_book.specs.Filled.{trade_in}
use Rattle.issue_book.specs.IssueView.{IsPriceOf}
use Rattle.issue_book.specs.Quoting.{settle_at, show_quote}
use Rattle.issue_book.specs.State.{Move, State, Terms, put, stay, ◌then◌}
use Rattle.issue_laws.specs.Brought.{trades_in}

-- What holds of an issue's book between its moves: the places rise and are below a number, each order has something left and
-- stands on the grid, and the last price is one of the grid.
pub record Stands (t : Terms) (n : ℕ) (s : State) : Type 0 where
  pub by_place : Pairs (λ a b. a.place < b.place) s.orders
  pub below : AllByRecursion (λ o. o.place < n) s.orders
  pub some : AllByRecursion (λ o. 0 < o.left) s.orders
  pub spots : AllByRecursion (λ o. IsSpotBelow (length t.grid) o.spot) s.orders
  pub last : IsPriceOf t.grid s.last

-- a book is calm while the issue trades and no quote is shown
abbrev pub StaysCalm : Terms → State → Type 0
StaysCalm t s = s.phase ≡ Trading → s.quote ≡ None → is_calm t.grid s.orders ≡ true

abbrev pub ArePriced : Terms → List Trade → Type 0
ArePriced t ts = AllByRecursion (λ x. IsPriceOf t.grid x.price.0) ts

-- a move that keeps the book standing, and trades at prices of the grid
pub record IsFine (t : Terms) (n : ℕ) (s : State) (m : Move) : Type 0 where
  pub stands : Stands t n m.state
  pub priced : ArePriced t (trades_in m.outputs)
  pub entries : m.state.entries ≡ s.entries

-- and after which the book is calm where it has to be
pub record IsGood (t : Terms) (n : ℕ) (s : State) (m : Move) : Type 0 where
  pub fine : IsFine t n s m
  pub calm : StaysCalm t m.state

pub fine-then : (t : Terms) (n : ℕ) (s : State) (m : Move) (f : State → Move) → IsFine t n s m → IsFine t n m.state (f m.state) → IsFine t n s (m then f)
fine-then t n s m f one two = record {
  stands = two.stands;
  priced = subst (ArePriced t) (sym (filter_map-append trade_in m.outputs (f m.state).outputs)) (all-append (λ x. IsPriceOf t.grid x.price.0) (trades_in m.outputs) (trades_in (f m.state).outputs) one.priced two.priced);
  entries = two.entries ∙ one.entries;
}

pub good-then : (t : Terms) (n : ℕ) (s : State) (m : Move) (f : State → Move) → IsGood t n s m → IsGood t n m.state (f m.state) → IsGood t n s (m then f)
good-then t n s m f one two = record { fine = fine-then t n s m f one.fine two.fine; calm = two.calm }

-- a move from a state with as many entries
pub good-from : (t : Terms) (n : ℕ) (s u : State) (m : Move) → u.entries ≡ s.entries → IsGood t n u m → IsGood t n s m
good-from t n s u m same good = record { fine = record { stands = good.fine.stands; priced = good.fine.priced; entries = good.fine.entries ∙ same }; calm = good.calm }

pub fine-stay : (t : Terms) (n : ℕ) (s : State) → Stands t n s → IsFine t n s (stay s)
fine-stay t n s stands = record { stands = stands; priced = tt; entries = refl }

-- outputs with no trade among them
pub fine-put : (t : Terms) (n : ℕ) (s : State) (outputs : List Output) → trades_in outputs ≡ [] → Stands t n s → IsFine t n s (put outputs s)
fine-put t n s outputs none stands = record { stands = stands; priced = subst (ArePriced t) (sym none) tt; entries = refl }

pub fine-quote : (t : Terms) (n : ℕ) (q : Option Quote) (s : State) → Stands t n s → IsFine t n s (show_quote q s)
fine-quote t n q s stands = record {
  stands = record { by_place = stands.by_place; below = stands.below; some = stands.some; spots = stands.spots; last = stands.last };
  priced = tt;
  entries = refl;
}

-- ---- the book after trades

pairs-after : (ts : List Trade) (os : List Order) → Pairs (λ a b. a.place < b.place) os → Pairs (λ a b. a.place < b.place) (after_trades ts os)
unfolding after_trades
pairs-after ts [] pairs = tt
pairs-after ts (o ∷ os) pairs = step (ltb 0 (less_traded ts o).left) (pairs-after ts os pairs.1)
  where
    step : (b : Bool) → Pairs (λ a b. a.place < b.place) (after_trades ts os) → Pairs (λ a b. a.place < b.place) (cond b (less_traded ts o ∷ after_trades ts os) (after_trades ts os))
    step true rest = (kept-after ts (λ x. o.place < x.place) (λ x. o.place < x.place) (λ x h e. h) os pairs.0, rest)
    step false rest = rest

pub stands-after : (t : Terms) (n : ℕ) (s : State) (ts : List Trade) (p : ℕ) → Stands t n s → IsPriceOf t.grid p → Stands t n (record s { orders = after_trades ts s.orders; last = p })
stands-after t n s ts p stands price = record {
  by_place = pairs-after ts s.orders stands.by_place;
  below = kept-after ts (λ o. o.place < n) (λ o. o.place < n) (λ x h e. h) s.orders stands.below;
  some = kept-after ts (λ o. 0 < o.left) (λ o. 0 < o.left) (λ x h e. grind (arith, nat_tests, e)) s.orders stands.some;
  spots = kept-after ts (λ o. IsSpotBelow (length t.grid) o.spot) (λ o. IsSpotBelow (length t.grid) o.spot) (λ x h e. h) s.orders stands.spots;
  last = price;
}

-- the trades among the outputs of a settlement are its own
pub trades-told : (ts : List Trade) → trades_in (trade_outputs ts) ≡ ts
trades-told [] = refl
trades-told (t ∷ ts) = ap (λ xs. t ∷ xs) (trades-told ts)

pub trades-settled : (shares : List Demand) (ts : List Trade) → trades_in (share_outputs shares ++ trade_outputs ts) ≡ ts
trades-settled [] ts = trades-told ts
trades-settled (d ∷ ds) ts = trades-settled ds ts

-- trades at one price of the grid
pub at-price : (t : Terms) (p : ℕ) → IsPriceOf t.grid p → (ts : List Trade) → AllByRecursion (λ x. x.price.0 ≡ p) ts → ArePriced t ts
at-price t p price [] all = tt
at-price t p price (x ∷ xs) all = (subst (IsPriceOf t.grid) (sym all.0) price, at-price t p price xs all.1)

pub fine-settle : (t : Terms) (n : ℕ) (p : ℕ) (f : Settlement) (s : State) → Stands t n s → IsPriceOf t.grid p → AllByRecursion (λ x. x.price.0 ≡ p) f.trades → IsFine t n s (settle_at p f s)
fine-settle t n p f s stands price all = record {
  stands = stands-after t n s f.trades p stands price;
  priced = subst (ArePriced t) (sym (trades-settled f.shares f.trades)) (at-price t p price f.trades all);
  entries = refl;
}
