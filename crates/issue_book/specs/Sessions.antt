-- The boundaries of a session: the opening and the close.
use Rattle.std.specs.Prelude.{ℕ, ◌==◌, ◌&&◌, ◌||◌, Bool, [], ◌∷◌, Option, None, Some, if◌then◌else◌, nat_lt}
use Rattle.std.specs.List.{list_any}
use Rattle.mkt_base.specs.Book.{buys, sells}
use Rattle.mkt_base.specs.Priority.{is_same_side}
use Rattle.mkt_base.specs.declared.auction.Outcome.{Outcome}
use Rattle.mkt_base.specs.declared.auction.Outcome.TheVariants.{Traded, Calm, Pressed}
use Rattle.mkt_base.specs.declared.event.Phase.{Phase}
use Rattle.mkt_base.specs.declared.event.Phase.TheVariants.{Idle, Collecting, Trading}
use Rattle.mkt_base.specs.declared.order.Side.{Side}
use Rattle.mkt_base.specs.declared.output.Output.TheVariants as outputs
use Rattle.mkt_base.specs.declared.quote.Quote.{Quote}
use Rattle.itayose.specs.Fills.{allotted_fills}
use Rattle.itayose.specs.declared.margin.Margin.{Margin}
use Rattle.itayose.specs.declared.margin.Margin.TheVariants.{Time, Rounds}
use Rattle.quote_law.specs.Quotes.{daily_limit, opposite}
use Rattle.session_phase.specs.declared.session.Boundary.{Boundary}
use Rattle.session_phase.specs.declared.session.Boundary.TheVariants.{Accept, Begin, Finish}
use Rattle.tick_grid.specs.Grid.{first_price, last_price}
use Rattle.tick_grid.specs.Range.{down_of, up_of}
use Rattle.issue_book.specs.State.{Move, State, Terms, put, stay, ◌then◌}
use Rattle.issue_book.specs.Quoting.{Tried, answer_at, due_by, fill, held, new_special, settle_at, show_quote, tell_auction}

-- a new phase
abbrev pub enter_phase : Phase → State → Move
enter_phase phase s = record { state = record s { phase = phase }; outputs = outputs.NewPhase phase ∷ [] }

-- ---- the opening

-- from the last price one renewal down and up
abbrev pub around_last : Terms → State → Tried
around_last t s = record { reference = s.last; lo = down_of t.grid t.ranges s.last; hi = up_of t.grid t.ranges s.last }

-- where a side presses a special quote of it begins
abbrev pub quote_pressed : Terms → Outcome → State → Move
quote_pressed t (Pressed side price pressing facing) s = show_quote (Some (new_special t side s)) s
quote_pressed t outcome s = stay s

abbrev pub opened : Terms → Tried → State → Outcome → Move
opened t w s outcome = held t w outcome s then quote_pressed t outcome

abbrev pub open_trading : Terms → State → Move
open_trading t s = opened t (around_last t s) s (answer_at t (around_last t s) s)

-- ---- the close

-- a close is tried over the opening's window, or over the due window of a shown quote
abbrev pub close_window : Terms → Option Quote → State → Tried
close_window t None s = around_last t s
close_window t (Some q) s = due_by t q s

-- at a daily limit, with more on the side that it bounds, the margin is by rounds
abbrev pub close_margin : Terms → ℕ → State → Margin
close_margin t p s =
    if (p == last_price t.grid && nat_lt (sells t.grid s.orders p) (buys t.grid s.orders p))
    || (p == first_price t.grid && nat_lt (buys t.grid s.orders p) (sells t.grid s.orders p)) then Rounds
    else Time

-- the close of a side that presses is allotted where the window ends at its daily limit and the other side has an order
abbrev pub is_allotted : Terms → Side → ℕ → State → Bool
is_allotted t side p s = p == daily_limit t.grid side && list_any (λ o. is_same_side (opposite side) o.side) s.orders

abbrev pub close_fills : Terms → Outcome → State → Move
close_fills t (Traded volume sums) s = fill t (close_margin t sums.price.0 s) (Traded volume sums) s
close_fills t (Calm bid ask) s = stay s
close_fills t (Pressed side price pressing facing) s =
    if is_allotted t side price.0 s then settle_at price.0 (allotted_fills t.grid s.orders side t.rounds t.unit) s else stay s

-- an auction is told, and its fills are done as those of a close
abbrev pub held_close : Terms → Tried → Outcome → State → Move
held_close t w outcome s = tell_auction t w outcome s then close_fills t outcome

abbrev pub close_at : Terms → Tried → State → Move
close_at t w s = held_close t w (answer_at t w s) s

-- a shown quote ends
abbrev pub end_shown : Option Quote → State → Move
end_shown None s = stay s
end_shown (Some q) s = show_quote None s

abbrev pub end_quote : State → Move
end_quote s = end_shown s.quote s

abbrev pub closed_by : Terms → Tried → State → Outcome → Move
closed_by t w s outcome = held_close t w outcome s then end_quote

abbrev pub close_trading : Terms → State → Move
close_trading t s = closed_by t (close_window t s.quote s) s (answer_at t (close_window t s.quote s) s)

abbrev pub at_boundary : Terms → Boundary → State → Move
at_boundary t Accept s = enter_phase Collecting s
at_boundary t Begin s = enter_phase Trading s then open_trading t
at_boundary t Finish s = close_trading t s then enter_phase Idle

-- what is due at a moment: the clock stands at it, and it is told
abbrev pub step_at : ℕ → (State → Move) → State → Move
step_at at does s = put (outputs.Due at ∷ []) (record s { now = at }) then does
