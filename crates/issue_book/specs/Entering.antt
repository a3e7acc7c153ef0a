-- Orders that enter the book, change or leave it.
use Rattle.std.specs.Prelude.{ℕ, ◌&&◌, not, Bool, [], ◌∷◌, ◌++◌, map, filter, find, Option, Some, option_map, is_none, if◌then◌else◌}
use Rattle.mkt_base.specs.declared.order.Kind.{Kind}
use Rattle.mkt_base.specs.declared.order.Kind.TheVariants as kinds
use Rattle.mkt_base.specs.declared.order.Order.{Order}
use Rattle.mkt_base.specs.declared.order.Spot.{Spot}
use Rattle.mkt_base.specs.declared.order.Spot.TheVariants.{Market, At}
use Rattle.mkt_base.specs.declared.units.Caller.{Caller}
use Rattle.book_law.specs.BookView.{is_of}
use Rattle.itayose.specs.Fills.{trade_outputs}
use Rattle.quote_law.specs.Quotes.{sequential_quote}
use Rattle.tick_grid.specs.Grid.{index_of}
use Rattle.tick_grid.specs.Rows.{band_of}
use Rattle.zaraba.specs.Arrival.{Arrival, arrival, book_after}
use Rattle.zaraba.specs.declared.stop.Stop.{Stop}
use Rattle.zaraba.specs.declared.stop.Stop.TheVariants.{Done, Gap, Sequence}
use Rattle.issue_book.specs.State.{Move, State, Terms, stay, ◌then◌}
use Rattle.issue_book.specs.Quoting.{is_trading, new_special, show_quote}

-- where an order of this kind stands; none where its limit is not on the grid
abbrev pub spot_of : Terms → Kind → Option Spot
spot_of t kinds.Market = Some Market
spot_of t (kinds.Limit p) = option_map (λ i. At i) (index_of t.grid p.0)

-- the order of the caller with this own number, if it is in the book
abbrev pub named : Caller → ℕ → State → Option Order
named caller own s = find (is_of caller own) s.orders

-- while collecting, and while a quote is shown, an order only joins the book
abbrev pub trades_now : State → Bool
trades_now s = is_trading s.phase && is_none s.quote

abbrev pub join : Order → State → Move
join o s = stay (record s { orders = s.orders ++ o ∷ [] })

-- where trading stops at a gap a special quote begins, and a sequential one where an order went too far from the price at
-- its arrival
abbrev pub quote_for : Terms → ℕ → Stop → State → Move
quote_for t first Done s = stay s
quote_for t first (Gap side) s = show_quote (Some (new_special t side s)) s
quote_for t first (Sequence side) s = show_quote (Some (sequential_quote t.grid t.ranges side first s.now t.sequential_ms)) s

-- an order that trades at once
abbrev pub arrived : Order → State → Arrival → Move
arrived o s a = record { state = record s { orders = book_after a s.orders o; last = a.last }; outputs = trade_outputs a.trades }

-- what it does there
abbrev pub arrival_at : Terms → Order → State → Arrival
arrival_at t o s = arrival t.grid (band_of t.ranges) s.orders o s.last

abbrev pub met : Terms → Order → State → Arrival → Move
met t o s a = arrived o s a then quote_for t s.last a.stop

abbrev pub arrive : Terms → Order → State → Move
arrive t o s = met t o s (arrival_at t o s)

abbrev pub enter : Terms → Order → State → Move
enter t o s = if trades_now s then arrive t o s else join o s

-- the order of a caller is taken out
abbrev pub take_out : Caller → ℕ → State → State
take_out caller own s = record s { orders = filter (λ o. not (is_of caller own o)) s.orders }

-- its quantity is lowered, and it keeps its place
abbrev pub lowered : Caller → ℕ → ℕ → Order → Order
lowered caller own qty o = record o { left = if is_of caller own o then qty else o.left }

abbrev pub lower : Caller → ℕ → ℕ → State → State
lower caller own qty s = record s { orders = map (lowered caller own qty) s.orders }
