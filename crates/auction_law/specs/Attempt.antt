-- When a price meets the three conditions, which price is chosen, and what an attempt answers.
use Rattle.std.specs.Prelude.{◌≡◌, ◌<◌, ◌≤◌, ℕ, Bool, true, false, not, ◌&&◌, List, [], ◌∷◌, map, min, max, Option, Some, None, if◌then◌else◌, IsTrue, nat_lt, nat_le, is_some, find, take_while, filter_map, length, count_by, Contains, All}
use Rattle.std.specs.List.{list_all, list_any}
use Rattle.std.specs.Option.{option_map, option_map_or}
use Rattle.mkt_base.specs.Book.{IsRising, IsOnGrid, price_at, limit_of, is_buy, buys, above, sells, below, sums_at}
use Rattle.mkt_base.specs.Certificate.{Certificate}
use Rattle.mkt_base.specs.declared.units.Price.{Price}
use Rattle.mkt_base.specs.declared.order.Side.TheVariants.{Buy, Sell}
use Rattle.mkt_base.specs.declared.order.Order.{Order}
use Rattle.mkt_base.specs.declared.auction.Outcome.{Outcome}
use Rattle.mkt_base.specs.declared.auction.Outcome.TheVariants.{Traded, Calm, Pressed}
use Rattle.auction_law.specs.Nearness.{is_nearer, by_nearness, prices_of}

-- what trades at a price
abbrev pub volume_at : List Price → List Order → ℕ → ℕ
volume_at grid orders p = min (buys grid orders p) (sells grid orders p)

-- the three conditions: at least one share trades, and so does all that is better than the price on either side
unfoldable pub meets : List Price → List Order → ℕ → Bool
meets grid orders p =
    nat_le 1 (volume_at grid orders p) && nat_le (above grid orders p) (volume_at grid orders p) && nat_le (below grid orders p) (volume_at grid orders p)

-- the first price in order of nearness, over the whole grid, that meets the conditions
unfoldable pub chosen : List Price → List Order → ℕ → Option ℕ
chosen grid orders reference = find (meets grid orders) (by_nearness reference (prices_of grid))

-- the prices before it
unfoldable pub nearer_prices : List Price → List Order → ℕ → List ℕ
nearer_prices grid orders reference = take_while (λ p. not (meets grid orders p)) (by_nearness reference (prices_of grid))

-- the limit of a limit order of the side
abbrev pub side_limit : List Price → Bool → Order → Option ℕ
side_limit grid buying o = if (if buying then is_buy o.side else not (is_buy o.side)) then limit_of grid o.spot else None

-- the limits of the side's limit orders
abbrev pub limits : List Price → Bool → List Order → List ℕ
limits grid buying orders = filter_map (side_limit grid buying) orders

-- the higher of two prices, and the lower, where there are any
abbrev pub higher : Option ℕ → Option ℕ → Option ℕ
higher None q = q
higher (Some p) None = Some p
higher (Some p) (Some q) = Some (max p q)

abbrev pub lower : Option ℕ → Option ℕ → Option ℕ
lower None q = q
lower (Some p) None = Some p
lower (Some p) (Some q) = Some (min p q)

-- the greatest and the least of some prices, where there are any
abbrev pub greatest : List ℕ → Option ℕ
greatest [] = None
greatest (p ∷ ps) = higher (Some p) (greatest ps)

abbrev pub least : List ℕ → Option ℕ
least [] = None
least (p ∷ ps) = lower (Some p) (least ps)

-- the best limit buy and the best limit sell
abbrev pub best_bid : List Price → List Order → Option Price
best_bid grid orders = option_map (λ p. record { 0 = p }) (greatest (limits grid true orders))

abbrev pub best_ask : List Price → List Order → Option Price
best_ask grid orders = option_map (λ p. record { 0 = p }) (least (limits grid false orders))

-- the limit buy is at or above the limit sell
abbrev pub crosses : Option ℕ → Option ℕ → Bool
crosses (Some bid) (Some ask) = nat_le ask bid
crosses _ _ = false

-- no order is a market order
abbrev pub all_limited : List Price → List Order → Bool
all_limited grid orders = list_all (λ o. is_some (limit_of grid o.spot)) orders

-- no market order, and no limit buy at or above a limit sell
unfoldable pub is_calm : List Price → List Order → Bool
is_calm grid orders =
    all_limited grid orders
    && not (list_any (λ bid. list_any (λ ask. nat_le ask bid) (limits grid false orders)) (limits grid true orders))

-- the chosen price lies in the window
unfoldable pub is_traded : List Price → List Order → ℕ → ℕ → ℕ → Bool
is_traded grid orders reference lo hi = option_map_or (λ p. nat_le lo p && nat_le p hi) (chosen grid orders reference) false

-- neither of these, and more is bought above the window's upper end than is sold there
unfoldable pub is_pressed_buy : List Price → List Order → ℕ → ℕ → ℕ → Bool
is_pressed_buy grid orders reference lo hi =
    not (is_traded grid orders reference lo hi) && not (is_calm grid orders) && nat_lt (sells grid orders hi) (above grid orders hi)

-- neither of these, and more is sold below the window's lower end than is bought there
unfoldable pub is_pressed_sell : List Price → List Order → ℕ → ℕ → ℕ → Bool
is_pressed_sell grid orders reference lo hi =
    not (is_traded grid orders reference lo hi) && not (is_calm grid orders) && nat_lt (buys grid orders lo) (below grid orders lo)

-- The attempt with this reference price over the window from lo to hi has this outcome: one case for each answer,
-- with the numbers that show it.
abbrev pub IsAttempt : List Price → List Order → ℕ → ℕ → ℕ → Outcome → Type 0
IsAttempt grid orders reference lo hi (Traded volume sums) =
    IsTrue (is_traded grid orders reference lo hi) × (chosen grid orders reference ≡ Some sums.price.0)
    × (sums ≡ sums_at grid orders sums.price.0) × (volume ≡ volume_at grid orders sums.price.0)
IsAttempt grid orders reference lo hi (Calm bid ask) =
    IsTrue (is_calm grid orders) × (bid ≡ best_bid grid orders) × (ask ≡ best_ask grid orders)
IsAttempt grid orders reference lo hi (Pressed Buy price pressing facing) =
    IsTrue (is_pressed_buy grid orders reference lo hi) × (price.0 ≡ hi) × (pressing ≡ above grid orders hi) × (facing ≡ sells grid orders hi)
IsAttempt grid orders reference lo hi (Pressed Sell price pressing facing) =
    IsTrue (is_pressed_sell grid orders reference lo hi) × (price.0 ≡ lo) × (pressing ≡ below grid orders lo) × (facing ≡ buys grid orders lo)

-- the answer where it trades at a price
abbrev pub traded_outcome : List Price → List Order → ℕ → Outcome
traded_outcome grid orders p = Traded (volume_at grid orders p) (sums_at grid orders p)

-- the answers of a side that presses: buyers at the window's upper end, sellers at its lower end
abbrev pub pressed_buy : List Price → List Order → ℕ → Outcome
pressed_buy grid orders hi = Pressed Buy (record { 0 = hi }) (above grid orders hi) (sells grid orders hi)

abbrev pub pressed_sell : List Price → List Order → ℕ → Outcome
pressed_sell grid orders lo = Pressed Sell (record { 0 = lo }) (below grid orders lo) (buys grid orders lo)

-- a price where it lies in the window
abbrev pub within : ℕ → ℕ → Option ℕ → Option ℕ
within lo hi None = None
within lo hi (Some p) = if nat_le lo p && nat_le p hi then Some p else None

-- where nothing trades: calm, or else pressed on the buy side where more is bought above the upper end than is sold there, or
-- else on the sell side
abbrev pub not_traded : List Price → List Order → ℕ → ℕ → Outcome
not_traded grid orders lo hi =
    if is_calm grid orders then Calm (best_bid grid orders) (best_ask grid orders)
    else if nat_lt (sells grid orders hi) (above grid orders hi) then pressed_buy grid orders hi
    else pressed_sell grid orders lo

-- the answer of the attempt: traded at the chosen price, where it lies in the window
unfoldable pub attempt : List Price → List Order → ℕ → ℕ → ℕ → Outcome
attempt grid orders reference lo hi =
    option_map_or (traded_outcome grid orders) (within lo hi (chosen grid orders reference)) (not_traded grid orders lo hi)

-- the certificate of an outcome: where it trades, the prices nearer than the chosen one with their sums
abbrev pub certificate_of : List Price → List Order → ℕ → Outcome → Certificate
certificate_of grid orders reference (Traded volume sums) =
    record { rejected = map (sums_at grid orders) (nearer_prices grid orders reference); outcome = Traded volume sums }
certificate_of grid orders reference (Calm bid ask) = record { rejected = []; outcome = Calm bid ask }
certificate_of grid orders reference (Pressed side price pressing facing) = record { rejected = []; outcome = Pressed side price pressing facing }

-- an auction over a rising grid, whose orders have something left, with the reference's position in the window from lo to hi
pub record IsAuction (grid : List Price) (orders : List Order) (reference lo hi : ℕ) : Type 0 where
  pub rising : IsRising grid
  pub on_grid : All (λ o. IsOnGrid grid o.spot) orders
  pub left : All (λ o. 0 < o.left) orders
  pub from_lo : lo ≤ reference
  pub to_hi : reference ≤ hi
  pub in_range : hi < length grid

-- whether an attempt trades, is calm, is pressed by buyers, or by sellers
abbrev pub four_answers : List Price → List Order → ℕ → ℕ → ℕ → List Bool
four_answers grid orders reference lo hi =
    is_traded grid orders reference lo hi ∷ is_calm grid orders ∷ is_pressed_buy grid orders reference lo hi ∷ is_pressed_sell grid orders reference lo hi ∷ []

-- it does exactly one of them
abbrev pub OneAnswer : Type 0
OneAnswer = (grid : List Price) (orders : List Order) (reference lo hi : ℕ) → IsAuction grid orders reference lo hi
    → count_by (λ answer. answer) (four_answers grid orders (price_at grid reference) (price_at grid lo) (price_at grid hi)) ≡ 1

-- the chosen price is one of the grid that meets the conditions, and no other that meets them is nearer
abbrev pub ChosenIsNearest : Type 0
ChosenIsNearest = (grid : List Price) (orders : List Order) (reference p : ℕ) → chosen grid orders reference ≡ Some p
    → Contains (prices_of grid) p × IsTrue (meets grid orders p)
    × ((q : ℕ) → Contains (prices_of grid) q → IsTrue (meets grid orders q) → is_nearer reference q p ≡ false)
