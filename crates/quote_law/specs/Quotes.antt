-- Quotes: where they begin, which prices are tried while one is shown, and what the answer makes of it.
use Rattle.std.specs.Prelude.{ℕ, ◌+◌, ◌-◌, ◌*◌, ◌==◌, ◌≤◌, List, Option, Some, None, IsSome, if◌then◌else◌, nat_lt}
use Rattle.mkt_base.specs.Priority.{is_same_side}
use Rattle.mkt_base.specs.declared.auction.Outcome.{Outcome}
use Rattle.mkt_base.specs.declared.auction.Outcome.TheVariants.{Traded, Calm, Pressed}
use Rattle.mkt_base.specs.declared.order.Side.{Side}
use Rattle.mkt_base.specs.declared.order.Side.TheVariants.{Buy, Sell}
use Rattle.mkt_base.specs.declared.quote.Quote.{Quote}
use Rattle.mkt_base.specs.declared.quote.QuoteKind.TheVariants.{Special, Sequential}
use Rattle.mkt_base.specs.declared.units.Price.{Price}
use Rattle.tick_grid.specs.Grid.{first_price, index_of, last_price}
use Rattle.tick_grid.specs.Range.{down_of, greatest_upto, least_from, up_of}
use Rattle.tick_grid.specs.Rows.{band_of}
use Rattle.tick_grid.specs.declared.rows.BandRow.{BandRow}

abbrev pub opposite : Side → Side
opposite Buy = Sell
opposite Sell = Buy

-- so many milliseconds after a moment, where the day has not ended by then
abbrev pub later : ℕ → ℕ → Option ℕ
later now interval = if nat_lt (now + interval) 86400000 then Some (now + interval) else None

-- the daily limit of a side
abbrev pub daily_limit : List Price → Side → ℕ
daily_limit grid Buy = last_price grid
daily_limit grid Sell = first_price grid

-- one renewal from a price, to the side's way
abbrev pub renewed : List Price → List BandRow → Side → ℕ → ℕ
renewed grid ranges Buy p = up_of grid ranges p
renewed grid ranges Sell p = down_of grid ranges p

-- a special quote at a price; at the daily limit it is not due
abbrev pub special_at : List Price → Side → ℕ → ℕ → ℕ → Quote
special_at grid side p now interval =
    record { kind = Special; side = side; price = record { 0 = p }; due = if p == daily_limit grid side then None else later now interval }

-- a special quote begins one renewal from the last price
abbrev pub special_quote : List Price → List BandRow → Side → ℕ → ℕ → ℕ → Quote
special_quote grid ranges side last now interval = special_at grid side (renewed grid ranges side last) now interval

-- twice the range from a price, to the side's way, on the grid
abbrev pub twice_away : List Price → List BandRow → Side → ℕ → ℕ
twice_away grid ranges Buy p = greatest_upto grid (p + 2 * band_of ranges p)
twice_away grid ranges Sell p = least_from grid (p - 2 * band_of ranges p)

-- a sequential quote begins twice the range from the last price at the order's arrival
abbrev pub sequential_quote : List Price → List BandRow → Side → ℕ → ℕ → ℕ → Quote
sequential_quote grid ranges side first now interval =
    record { kind = Sequential; side = side; price = record { 0 = twice_away grid ranges side first }; due = later now interval }

-- a window between two prices, the lower first, for a quote of the side
abbrev pub window_to : Side → ℕ → ℕ → ℕ × ℕ
window_to Buy near far = (near, far)
window_to Sell near far = (far, near)

-- the window while a quote is shown: from one renewal of the last price to the other side's way, to the quote's price
abbrev pub window : List Price → List BandRow → Quote → ℕ → ℕ × ℕ
window grid ranges q last = window_to q.side (renewed grid ranges (opposite q.side) last) q.price.0

-- at its due moment, and at a close, it goes one renewal beyond the quote's price
abbrev pub due_window : List Price → List BandRow → Quote → ℕ → ℕ × ℕ
due_window grid ranges q last = window_to q.side (renewed grid ranges (opposite q.side) last) (renewed grid ranges q.side q.price.0)

-- What becomes of a quote by the answer of an attempt: where it trades or the book is calm the quote ends, where its own
-- side presses one thing follows, and where the other side does another.
abbrev pub answered : Quote → Option Quote → Option Quote → Outcome → Option Quote
answered q own other (Traded volume sums) = None
answered q own other (Calm bid ask) = None
answered q own other (Pressed side price pressing facing) = if is_same_side side q.side then own else other

-- after an event a quote stays where its own side presses, and one of the other side takes its place where that does
abbrev pub after_event : Quote → Outcome → Quote → Option Quote
after_event q outcome fresh = answered q (Some q) (Some fresh) outcome

-- at its due moment it moves where its own side presses
abbrev pub at_due : Quote → Outcome → Quote → Quote → Option Quote
at_due q outcome moved fresh = answered q (Some moved) (Some fresh) outcome

-- the price of the quote stands on the grid
abbrev pub IsOn : List Price → Quote → Type 0
IsOn grid q = IsSome (index_of grid q.price.0)

-- the second number is the first, or lies to the side's way from it
abbrev pub IsToward : Side → ℕ → ℕ → Type 0
IsToward Buy from to = from ≤ to
IsToward Sell from to = to ≤ from

-- the second price is not farther than that from the first to the side's way; to the other way it may be anywhere
abbrev pub IsNear : Side → ℕ → ℕ → ℕ → Type 0
IsNear Buy far from to = to ≤ from + far
IsNear Sell far from to = from ≤ to + far
