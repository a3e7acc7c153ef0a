-- What an order filled on the way, and what it has left.
use Rattle.std.specs.Prelude.{◌≡◌, ℕ, ◌+◌, ◌==◌, List, filter_map, Option, None, Some, All}
use Rattle.std.specs.Option.{option_map_or}
use Rattle.mkt_base.specs.Fills.{traded_at}
use Rattle.mkt_base.specs.declared.auction.Trade.{Trade}
use Rattle.mkt_base.specs.declared.order.Order.{Order}
use Rattle.mkt_base.specs.declared.output.Output.{Output}
use Rattle.mkt_base.specs.declared.output.Output.TheVariants as outputs
use Rattle.mkt_base.specs.declared.units.Caller.{Caller}
use Rattle.book_law.specs.BookView.{is_of}
use Rattle.issue_book.specs.Entering.{named}
use Rattle.issue_book.specs.State.{Move, State}

abbrev pub trade_in : Output → Option Trade
trade_in (outputs.Traded t) = Some t
trade_in output = None

-- what the order at a place filled on the way
abbrev pub filled_on : Move → ℕ → ℕ
filled_on m place = traded_at (filter_map trade_in m.outputs) place

-- what a caller's order has left; nothing where it is not in the book
abbrev pub left_of : Caller → ℕ → State → ℕ
left_of caller own s = option_map_or (λ o. o.left) (named caller own s) 0

-- the place is that of the caller's order with this own number, and of no other
abbrev pub IsKey : Caller → ℕ → ℕ → List Order → Type 0
IsKey caller own place os = All (λ o. (place == o.place) ≡ is_of caller own o) os

-- a move after which the order has so many shares less as it filled on the way
pub record IsFilled (caller : Caller) (own place before : ℕ) (m : Move) : Type 0 where
  pub fills : filled_on m place + left_of caller own m.state ≡ before
  pub key : IsKey caller own place m.state.orders
