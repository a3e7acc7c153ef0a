-- What an attempt answers in positions, and what a watch is told of an auction.
use Rattle.std.specs.Prelude.{◌≡◌, ℕ, ◌<◌, true, List, [], ◌∷◌, ◌++◌, length, map, Option, Some, None, IfSome, slice_get}
use Rattle.std.specs.Option.{option_map}
use Rattle.mkt_base.specs.Book.{price_at, buys, above, sells, below, sums_at}
use Rattle.mkt_base.specs.Certificate.{Certificate}
use Rattle.mkt_base.specs.declared.auction.Outcome.{Outcome}
use Rattle.mkt_base.specs.declared.auction.Outcome.TheVariants as outcomes
use Rattle.mkt_base.specs.declared.order.Order.{Order}
use Rattle.mkt_base.specs.declared.order.Side.{Side}
use Rattle.mkt_base.specs.declared.order.Side.TheVariants.{Buy, Sell}
use Rattle.mkt_base.specs.declared.auction.Sums.{Sums}
use Rattle.mkt_base.specs.declared.order.Spot.{Spot}
use Rattle.mkt_base.specs.declared.order.Spot.TheVariants.{At}
use Rattle.mkt_base.specs.declared.output.Output.{Output}
use Rattle.mkt_base.specs.declared.output.Output.TheVariants.{Auction, Rejected, Answer}
use Rattle.mkt_base.specs.declared.units.Price.{Price}
use Rattle.auction_law.specs.Attempt.{best_ask, best_bid, certificate_of, is_calm, nearer_prices}
use Rattle.book_law.specs.BookView.{BookView, side_of}
use Rattle.itayose.specs.Reads.{least_reads}
use Rattle.itayose.specs.declared.positions.Attempt.{Attempt}
use Rattle.itayose.specs.declared.positions.Attempt.TheVariants.{Traded, Calm, Pressed}

-- the price at a position, as a price
abbrev pub price_there : List Price → ℕ → Price
price_there grid i = record { 0 = price_at grid i }

-- the outcome that an answer in positions stands for, over the window between two positions
abbrev pub outcome_of : List Price → List Order → ℕ → ℕ → Attempt → Outcome
outcome_of grid os lo hi (Traded at volume) = outcomes.Traded volume (sums_at grid os (price_at grid at))
outcome_of grid os lo hi (Calm bid ask) = outcomes.Calm (option_map (price_there grid) bid) (option_map (price_there grid) ask)
outcome_of grid os lo hi (Pressed Buy) = outcomes.Pressed Buy (price_there grid hi) (above grid os (price_at grid hi)) (sells grid os (price_at grid hi))
outcome_of grid os lo hi (Pressed Sell) = outcomes.Pressed Sell (price_there grid lo) (below grid os (price_at grid lo)) (buys grid os (price_at grid lo))

-- the positions of an answer are on the grid
abbrev pub IsOnPositions : List Price → Attempt → Type 0
IsOnPositions grid (Traded at volume) = at < length grid
IsOnPositions grid (Calm bid ask) = IfSome bid (λ i. i < length grid) × IfSome ask (λ i. i < length grid)
IsOnPositions grid (Pressed side) = Unit {0}

-- the answer of a calm book: its best limits
pub record IsCalmAnswer (grid : List Price) (os : List Order) (answer : Attempt) : Type 0 where
  pub calm : is_calm grid os ≡ true
  pub positions : IsOnPositions grid answer
  pub outcome : (lo hi : ℕ) → outcome_of grid os lo hi answer ≡ outcomes.Calm (best_bid grid os) (best_ask grid os)
  pub unread : least_reads answer ≡ 0

-- the sums that the certificate of an answer rejects: where it trades, those of the prices nearer than the chosen one
abbrev pub rejected_for : List Price → List Order → ℕ → Attempt → List Sums
rejected_for grid os reference (Traded at volume) = map (sums_at grid os) (nearer_prices grid os reference)
rejected_for grid os reference (Calm bid ask) = []
rejected_for grid os reference (Pressed side) = []

-- what a watch is told of a certificate: the nearer prices with their sums, and the outcome
abbrev pub certificate_outputs : Certificate → List Output
certificate_outputs c = map (λ s. Rejected s) c.rejected ++ Answer c.outcome ∷ []

-- what it is told of an auction: its reference price and its window of prices, and the certificate of its outcome
abbrev pub auction_outputs : List Price → List Order → ℕ → ℕ → ℕ → Outcome → List Output
auction_outputs grid os reference lo hi outcome =
    Auction (record { 0 = reference }) (record { 0 = lo }) (record { 0 = hi }) ∷ certificate_outputs (certificate_of grid os reference outcome)

-- where the best order of a side stands
abbrev pub best_spot : BookView → Side → Option Spot
best_spot b side = option_map (λ o. o.spot) (slice_get (side_of b side) 0)

-- the position of a limit; the market has none
abbrev pub position_of : Option Spot → Option ℕ
position_of (Some (At i)) = Some i
position_of _ = None
