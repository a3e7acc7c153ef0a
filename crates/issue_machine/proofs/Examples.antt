-- Days of one issue, worked by the definition of the step over the grid of 1,001 prices from 15000 to 25000.
use Rattle.std.proofs.Common.{◌≡◌, ℕ, ◌+◌, List, [], ◌∷◌, Option, Some, None, refl}
use Rattle.mkt_base.specs.Book.{total_left}
use Rattle.mkt_base.specs.Fills.{after_trades, from_front, less_front, pair, quantity, traded_at}
use Rattle.mkt_base.specs.Priority.{in_priority}
use Rattle.mkt_base.specs.declared.event.Event.{Event}
use Rattle.mkt_base.specs.declared.event.Event.TheVariants as events
use Rattle.mkt_base.specs.declared.event.Phase.TheVariants as phases
use Rattle.mkt_base.specs.declared.event.Reason.TheVariants as reasons
use Rattle.mkt_base.specs.declared.event.Reply.{Reply}
use Rattle.mkt_base.specs.declared.event.Reply.TheVariants as replies
use Rattle.mkt_base.specs.declared.auction.Outcome.TheVariants as answers
use Rattle.mkt_base.specs.declared.auction.Sums.{Sums}
use Rattle.mkt_base.specs.declared.order.Kind.TheVariants as kinds
use Rattle.mkt_base.specs.declared.output.Output.{Output}
use Rattle.mkt_base.specs.declared.output.Output.TheVariants as outputs
use Rattle.mkt_base.specs.declared.quote.Quote.{Quote}
use Rattle.mkt_base.specs.declared.quote.QuoteKind.{QuoteKind}
use Rattle.mkt_base.specs.declared.quote.QuoteKind.TheVariants.{Special, Sequential}
use Rattle.mkt_base.specs.declared.order.Spot.TheVariants as spots
use Rattle.mkt_base.specs.declared.order.Side.{Side}
use Rattle.mkt_base.specs.declared.order.Side.TheVariants.{Buy, Sell}
use Rattle.mkt_base.specs.declared.units.Price.{Price}
use Rattle.allotment.specs.Allotment.{after_round, allot}
use Rattle.allotment.specs.declared.round.Round.TheVariants.{Units, Part, All}
use Rattle.auction_law.specs.Attempt.{attempt, chosen, is_calm, is_traded, meets, nearer_prices}
use Rattle.tick_grid.specs.Grid.{ceil_of, floor_of, index_of}
use Rattle.tick_grid.specs.Range.{down_of, greatest_upto, least_from, up_of}
use Rattle.tick_grid.specs.Rows.{grid_of, prices_on_tick}
use Rattle.zaraba.specs.Arrival.{arrival_over}
use Rattle.issue_book.specs.State.{State, Terms, start}
use Rattle.issue_machine.specs.Step.{step}

abbrev sample : Terms
sample =
    record {
      grid = grid_of (record { upto = 30000; tick = 10 } ∷ record { upto = 1000000000; tick = 50 } ∷ []) 15000 25000;
      base = 20000;
      unit = 100;
      ranges = record { below = 15000; value = 300 } ∷ record { below = 20000; value = 400 } ∷ record { below = 30000; value = 500 } ∷ record { below = 1000000001; value = 700 } ∷ [];
      sessions = record { accept = 28800000; begin = 32400000; finish = 41400000 } ∷ record { accept = 43500000; begin = 45000000; finish = 54000000 } ∷ [];
      rounds = Units 1 ∷ Part 1 3 ∷ Part 1 2 ∷ All ∷ [];
      special_ms = 180000;
      sequential_ms = 60000;
    }

-- the replies to events that one caller enters, in a row
abbrev replies_to : List Event → ℕ → State → List Reply
replies_to [] place s = []
replies_to (event ∷ events) place s =
    let done = step sample (record { place = place; caller = record { 0 = 1 }; own = place; event = event }) s in
    done.reply ∷ replies_to events (place + 1) done.state

-- the outputs of the last of these events
abbrev last_outputs : List Event → ℕ → State → List Output
last_outputs [] place s = []
last_outputs (event ∷ []) place s = (step sample (record { place = place; caller = record { 0 = 1 }; own = place; event = event }) s).outputs
last_outputs (event ∷ next ∷ events) place s =
    last_outputs (next ∷ events) (place + 1) (step sample (record { place = place; caller = record { 0 = 1 }; own = place; event = event }) s).state

abbrev clock : ℕ → Event
clock at = events.Clock at

abbrev market : ℕ → Side → ℕ → Event
market participant side qty = events.Order (record { 0 = participant }) side kinds.Market (record { 0 = qty })

abbrev limit : ℕ → Side → ℕ → ℕ → Event
limit participant side price qty = events.Order (record { 0 = participant }) side (kinds.Limit (record { 0 = price })) (record { 0 = qty })

abbrev cancel : ℕ → ℕ → Event
cancel participant target = events.Cancel (record { 0 = participant }) target

abbrev price : ℕ → Price
price p = record { 0 = p }

abbrev trade : ℕ → ℕ → ℕ → ℕ → Output
trade p qty buy sell = outputs.Traded (record { price = price p; qty = qty; buy = buy; sell = sell })

abbrev sums : ℕ → ℕ → ℕ → ℕ → ℕ → Sums
sums p buys above sells below = record { price = price p; buys = buys; above = above; sells = sells; below = below }

abbrev quote_of : QuoteKind → Side → ℕ → Option ℕ → Quote
quote_of kind side p due = record { kind = kind; side = side; price = price p; due = due }

abbrev change : ℕ → ℕ → ℕ → ℕ → Event
change participant target price qty = events.Change (record { 0 = participant }) target (kinds.Limit (record { 0 = price })) (record { 0 = qty })

-- the opening: a limit buy of 500 above a limit sell of 300, at the third price tried
opening_price_is_nearest : last_outputs (clock 28800000 ∷ limit 0 Buy 20010 500 ∷ limit 1 Sell 19990 300 ∷ clock 32400000 ∷ []) 0 (start sample)
    ≡ outputs.Due 32400000 ∷ outputs.NewPhase phases.Trading ∷ outputs.Auction (price 20000) (price 19500) (price 20500)
    ∷ outputs.Rejected (sums 20000 500 500 300 300) ∷ outputs.Rejected (sums 19990 500 500 300 0)
    ∷ outputs.Answer (answers.Traded 300 (sums 20010 500 0 300 300)) ∷ trade 20010 300 1 2 ∷ []
unfolding step attempt chosen is_calm is_traded meets nearer_prices total_left in_priority after_trades traded_at from_front less_front pair quantity arrival_over allot after_round grid_of prices_on_tick index_of floor_of ceil_of up_of down_of greatest_upto least_from
opening_price_is_nearest = refl

-- a market buy takes two sells in continuous trading
two_sells_taken : last_outputs (clock 32400000 ∷ limit 1 Sell 20010 100 ∷ limit 2 Sell 20400 100 ∷ market 0 Buy 200 ∷ []) 0 (start sample)
    ≡ trade 20010 100 3 1 ∷ trade 20400 100 3 2 ∷ []
unfolding step attempt chosen is_calm is_traded meets nearer_prices total_left in_priority after_trades traded_at from_front less_front pair quantity arrival_over allot after_round grid_of prices_on_tick index_of floor_of ceil_of up_of down_of greatest_upto least_from
two_sells_taken = refl

-- a third sell is too far from the price at arrival: a sequential quote
sequential_quote_begins : last_outputs (clock 32400000 ∷ limit 1 Sell 20400 100 ∷ limit 1 Sell 20800 100 ∷ limit 1 Sell 21200 100 ∷ market 0 Buy 300 ∷ []) 0 (start sample)
    ≡ trade 20400 100 4 1 ∷ trade 20800 100 4 2 ∷ outputs.Quoted (Some (quote_of Sequential Buy 21000 (Some 32460000))) ∷ []
unfolding step attempt chosen is_calm is_traded meets nearer_prices total_left in_priority after_trades traded_at from_front less_front pair quantity arrival_over allot after_round grid_of prices_on_tick index_of floor_of ceil_of up_of down_of greatest_upto least_from
sequential_quote_begins = refl

-- a sell within the window ends a special quote at the quote's price
special_quote_trades : last_outputs (clock 32400000 ∷ limit 1 Sell 21000 100 ∷ market 0 Buy 100 ∷ limit 2 Sell 20300 100 ∷ []) 0 (start sample)
    ≡ outputs.Auction (price 20500) (price 19500) (price 20500) ∷ outputs.Answer (answers.Traded 100 (sums 20500 100 100 100 100))
    ∷ trade 20500 100 2 3 ∷ outputs.Quoted None ∷ []
unfolding step attempt chosen is_calm is_traded meets nearer_prices total_left in_priority after_trades traded_at from_front less_front pair quantity arrival_over allot after_round grid_of prices_on_tick index_of floor_of ceil_of up_of down_of greatest_upto least_from
special_quote_trades = refl

-- a sell far from the last price begins a special buy quote, which its own attempt ends
quote_ends_in_its_event : last_outputs (clock 32400000 ∷ limit 0 Buy 24000 100 ∷ market 1 Sell 100 ∷ []) 0 (start sample)
    ≡ outputs.Quoted (Some (quote_of Special Buy 20500 (Some 32580000)))
    ∷ outputs.Auction (price 20500) (price 19500) (price 20500) ∷ outputs.Answer (answers.Traded 100 (sums 20500 100 100 100 100))
    ∷ trade 20500 100 1 2 ∷ outputs.Quoted None ∷ []
unfolding step attempt chosen is_calm is_traded meets nearer_prices total_left in_priority after_trades traded_at from_front less_front pair quantity arrival_over allot after_round grid_of prices_on_tick index_of floor_of ceil_of up_of down_of greatest_upto least_from
quote_ends_in_its_event = refl

-- a special buy quote that is shown at 10:00 and due three minutes later
abbrev quoted : State
quoted = record (start sample) { phase = phases.Trading; now = 36000000; quote = Some (quote_of Special Buy 20500 (Some 36180000)); orders = record { place = 1; caller = record { 0 = 1 }; own = 1; participant = record { 0 = 0 }; side = Buy; spot = spots.Market; left = 100 } ∷ [] }

-- at its due moment it is served, once
quote_is_served : (step sample (record { place = 2; caller = record { 0 = 1 }; own = 2; event = clock 36180000 }) quoted).reply ≡ replies.Moment 1
unfolding step attempt chosen is_calm is_traded meets nearer_prices total_left in_priority after_trades traded_at from_front less_front pair quantity arrival_over allot after_round grid_of prices_on_tick index_of floor_of ceil_of up_of down_of greatest_upto least_from
quote_is_served = refl

-- a lower quantity keeps the place, every other change takes the entry's
places_of_changes : replies_to (clock 32400000 ∷ limit 0 Buy 19900 300 ∷ change 0 1 19900 200 ∷ change 0 1 19910 200 ∷ change 0 1 19910 200 ∷ []) 0 (start sample)
    ≡ replies.Moment 2 ∷ replies.Accepted 1 0 300 ∷ replies.Changed 1 0 200 ∷ replies.Changed 3 0 200 ∷ replies.Changed 4 0 200 ∷ []
unfolding step attempt chosen is_calm is_traded meets nearer_prices total_left in_priority after_trades traded_at from_front less_front pair quantity arrival_over allot after_round grid_of prices_on_tick index_of floor_of ceil_of up_of down_of greatest_upto least_from
places_of_changes = refl

-- each reason to refuse, in the order of their numbers
reasons_to_refuse : replies_to (
    limit 0 Buy 19000 150 ∷ clock 32400000 ∷ limit 0 Buy 19005 150 ∷ limit 0 Buy 19005 100 ∷ limit 0 Buy 19000 100 ∷ change 0 9 19000 100 ∷ cancel 1 4
    ∷ clock 28800000 ∷ cancel 0 4 ∷ []) 0 (start sample)
    ≡ replies.Refused (reasons.Closed phases.Idle) ∷ replies.Moment 2 ∷ replies.Refused (reasons.BadQty (record { 0 = 150 }))
    ∷ replies.Refused (reasons.BadPrice (price 19005)) ∷ replies.Accepted 4 0 100 ∷ replies.Refused (reasons.UnknownOrder 9)
    ∷ replies.Refused (reasons.NotYours (record { 0 = 0 })) ∷ replies.Refused (reasons.TimeBack 32400000) ∷ replies.Cancelled 100 ∷ []
unfolding step attempt chosen is_calm is_traded meets nearer_prices total_left in_priority after_trades traded_at from_front less_front pair quantity arrival_over allot after_round grid_of prices_on_tick index_of floor_of ceil_of up_of down_of greatest_upto least_from
reasons_to_refuse = refl
