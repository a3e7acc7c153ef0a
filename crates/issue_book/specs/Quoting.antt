-- Auctions of an issue, and the quotes that are tried by them.
use Rattle.std.specs.Prelude.{ℕ, Bool, true, false, [], ◌∷◌, Option, None, Some, if◌then◌else◌}
use Rattle.mkt_base.specs.Fills.{after_trades}
use Rattle.mkt_base.specs.Priority.{is_same_side}
use Rattle.mkt_base.specs.declared.auction.Outcome.{Outcome}
use Rattle.mkt_base.specs.declared.auction.Outcome.TheVariants.{Traded, Pressed}
use Rattle.mkt_base.specs.declared.event.Phase.{Phase}
use Rattle.mkt_base.specs.declared.event.Phase.TheVariants.{Trading}
use Rattle.mkt_base.specs.declared.order.Side.{Side}
use Rattle.mkt_base.specs.declared.output.Output.TheVariants as outputs
use Rattle.mkt_base.specs.declared.quote.Quote.{Quote}
use Rattle.auction_law.specs.Attempt.{attempt}
use Rattle.itayose.specs.Answer.{auction_outputs}
use Rattle.itayose.specs.Fills.{Settlement, auction_fills, settlement_outputs}
use Rattle.itayose.specs.declared.margin.Margin.{Margin}
use Rattle.itayose.specs.declared.margin.Margin.TheVariants.{Time}
use Rattle.quote_law.specs.Quotes.{after_event, at_due, due_window, opposite, renewed, special_at, special_quote, window}
use Rattle.issue_book.specs.State.{Move, State, Terms, put, stay, ◌then◌}

abbrev pub is_trading : Phase → Bool
is_trading Trading = true
is_trading phase = false

-- a window of prices and the reference in it
pub record Tried : Type 0 where
  pub reference : ℕ
  pub lo : ℕ
  pub hi : ℕ

-- what an attempt over a window answers
abbrev pub answer_at : Terms → Tried → State → Outcome
answer_at t w s = attempt t.grid s.orders w.reference w.lo w.hi

-- the auction is told with the certificate of its answer
abbrev pub tell_auction : Terms → Tried → Outcome → State → Move
tell_auction t w outcome s = put (auction_outputs t.grid s.orders w.reference w.lo w.hi outcome) s

-- shares and trades at one price, which is the last price then
abbrev pub settle_at : ℕ → Settlement → State → Move
settle_at p f s = record { state = record s { orders = after_trades f.trades s.orders; last = p }; outputs = settlement_outputs f }

-- the fills of an auction where it trades
abbrev pub fill : Terms → Margin → Outcome → State → Move
fill t margin (Traded volume sums) s = settle_at sums.price.0 (auction_fills t.grid s.orders sums.price.0 margin t.rounds t.unit) s
fill t margin outcome s = stay s

-- an auction is told, and its fills are done by time
abbrev pub held : Terms → Tried → Outcome → State → Move
held t w outcome s = tell_auction t w outcome s then fill t Time outcome

abbrev pub hold_at : Terms → Tried → State → Move
hold_at t w s = held t w (answer_at t w s) s

-- a quote begins, moves, or ends
abbrev pub show_quote : Option Quote → State → Move
show_quote q s = record { state = record s { quote = q }; outputs = outputs.Quoted q ∷ [] }

-- a special quote of a side that begins now
abbrev pub new_special : Terms → Side → State → Quote
new_special t side s = special_quote t.grid t.ranges side s.last s.now t.special_ms

-- the outcome is that this side presses
abbrev pub presses : Side → Outcome → Bool
presses side (Pressed other price pressing facing) = is_same_side other side
presses side outcome = false

-- the window at which a shown quote is tried after an event, with the quote's price as the reference
abbrev pub tried_by : Terms → Quote → State → Tried
tried_by t q s = let w = window t.grid t.ranges q s.last in record { reference = q.price.0; lo = w.0; hi = w.1 }

-- that of its due moment, and of a close
abbrev pub due_by : Terms → Quote → State → Tried
due_by t q s = let w = due_window t.grid t.ranges q s.last in record { reference = q.price.0; lo = w.0; hi = w.1 }

-- After an event a shown quote is tried once. Where its own side presses nothing happens, and nothing is told.
abbrev pub tried : Terms → Quote → Tried → State → Outcome → Move
tried t q w s outcome =
    if presses q.side outcome then stay s
    else (held t w outcome s then show_quote (after_event q outcome (new_special t (opposite q.side) s)))

abbrev pub try_shown : Terms → Quote → State → Move
try_shown t q s = tried t q (tried_by t q s) s (answer_at t (tried_by t q s) s)

abbrev pub try_if_shown : Terms → Option Quote → State → Move
try_if_shown t None s = stay s
try_if_shown t (Some q) s = try_shown t q s

abbrev pub try_quote : Terms → State → Move
try_quote t s = if is_trading s.phase then try_if_shown t s.quote s else stay s

-- a quote one renewal on from where it stands
abbrev pub moved : Terms → Quote → State → Quote
moved t q s = special_at t.grid q.side (renewed t.grid t.ranges q.side q.price.0) s.now t.special_ms

-- at its due moment a quote is tried, and moves where its own side presses
abbrev pub served : Terms → Quote → Tried → State → Outcome → Move
served t q w s outcome = held t w outcome s then show_quote (at_due q outcome (moved t q s) (new_special t (opposite q.side) s))

abbrev pub serve : Terms → Quote → State → Move
serve t q s = served t q (due_by t q s) s (answer_at t (due_by t q s) s)
