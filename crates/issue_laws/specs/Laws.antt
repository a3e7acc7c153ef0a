-- Laws of an issue's steps: each is the clause of a function of the same name.
use Rattle.std.specs.Prelude.{◌≡◌, ℕ, ◌+◌, ◌<◌, ◌≤◌, true, List, [], ◌∷◌, ◌++◌, length, None, All}
use Rattle.mkt_base.specs.Fills.{traded_at}
use Rattle.mkt_base.specs.declared.event.Entry.{Entry}
use Rattle.mkt_base.specs.declared.event.Phase.TheVariants.{Trading}
use Rattle.mkt_base.specs.declared.order.Side.{Side}
use Rattle.mkt_base.specs.declared.units.Price.{Price}
use Rattle.auction_law.specs.Attempt.{is_calm}
use Rattle.tick_grid.specs.Grid.{first_price, last_price}
use Rattle.book_law.specs.Laws.{IsBookOn}
use Rattle.issue_book.specs.IssueView.{AreTerms, IsPriceOf}
use Rattle.issue_book.specs.State.{State, Terms}
use Rattle.issue_machine.specs.Journal.{IsJournal}
use Rattle.issue_machine.specs.Step.{state_after, step}
use Rattle.issue_laws.specs.Brought.{brought, left_at, left_on, shares_of, trades_in}

-- Behind a journal the places of an issue's orders rise and are those of its entries, each order has something left and stands
-- on the grid, and the last price is one of the grid.
abbrev pub BookStands : Type 0
BookStands = (t : Terms) (participants : ℕ) (journal : List Entry) → AreTerms t → IsJournal participants journal
    → let s : State = state_after t journal in
    IsBookOn (length t.grid) s.orders × All (λ o. o.place < length journal) s.orders × IsPriceOf t.grid s.last

-- While an issue trades and no quote is shown, its book is calm.
abbrev pub CalmInTrading : Type 0
CalmInTrading = (t : Terms) (participants : ℕ) (journal : List Entry) → AreTerms t → IsJournal participants journal
    → let s : State = state_after t journal in
    s.phase ≡ Trading → s.quote ≡ None → is_calm t.grid s.orders ≡ true

-- a price of the grid, and so within the daily limits, which are its ends
abbrev pub IsWithinLimits : List Price → ℕ → Type 0
IsWithinLimits grid p = IsPriceOf grid p × (first_price grid ≤ p) × (p ≤ last_price grid)

-- Whatever entry comes next behind a journal, each of its trades has a price of the grid, within the daily limits.
abbrev pub NoTradeOffTheGrid : Type 0
NoTradeOffTheGrid = (t : Terms) (participants : ℕ) (journal : List Entry) (e : Entry) → AreTerms t → IsJournal participants (journal ++ e ∷ [])
    → All (λ x. IsWithinLimits t.grid x.price.0) (trades_in (step t e (state_after t journal)).outputs)

-- Whatever entry comes next, what it trades and what a side has left afterwards are what the side has among the orders as the
-- entry finds them. So each side loses as much as the other.
abbrev pub BoughtIsSold : Type 0
BoughtIsSold = (t : Terms) (participants : ℕ) (journal : List Entry) (e : Entry) → AreTerms t → IsJournal participants (journal ++ e ∷ [])
    → let s : State = state_after t journal in
    (side : Side) → shares_of (trades_in (step t e s).outputs) + left_on side (step t e s).state.orders ≡ left_on side (brought t e s)

-- Whatever entry comes next, what it trades at a place and what the order there has left afterwards are what that order has as the
-- entry finds it. So no order trades more than it has, each loses what it trades, and where none stands nothing is traded.
abbrev pub EachLosesItsTrades : Type 0
EachLosesItsTrades = (t : Terms) (participants : ℕ) (journal : List Entry) (e : Entry) → AreTerms t → IsJournal participants (journal ++ e ∷ [])
    → let s : State = state_after t journal in
    (place : ℕ) → traded_at (trades_in (step t e s).outputs) place + left_at place (step t e s).state.orders ≡ left_at place (brought t e s)
