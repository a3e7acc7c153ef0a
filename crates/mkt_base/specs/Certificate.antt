-- A certificate: what an attempt answers, and the nearer prices that its sums rule out; and its lines.
use Rattle.std.specs.Prelude.{ℕ, List, [], ◌∷◌, ◌++◌, Option, Some, None, flat_map, codes}
use Rattle.std.specs.Fmt.{decimal}
use Rattle.mkt_base.specs.Text.{line}
use Rattle.mkt_base.specs.declared.units.Price.{Price}
use Rattle.mkt_base.specs.declared.order.Side.{Side}
use Rattle.mkt_base.specs.declared.order.Side.TheVariants.{Buy, Sell}
use Rattle.mkt_base.specs.declared.auction.Sums.{Sums}
use Rattle.mkt_base.specs.declared.auction.Outcome.{Outcome}
use Rattle.mkt_base.specs.declared.auction.Outcome.TheVariants.{Traded, Calm, Pressed}

-- the prices that are nearer than the chosen one, the nearest first, and the outcome
pub record Certificate : Type 0 where
  pub rejected : List Sums
  pub outcome : Outcome

-- the four sums as words
abbrev pub sum_words : Sums → List (List ℕ)
sum_words s = decimal s.buys ∷ decimal s.above ∷ decimal s.sells ∷ decimal s.below ∷ []

-- a nearer price, with the sums that rule it out
abbrev pub rejected_line : Sums → List ℕ
rejected_line s = line (codes "rejected" ∷ decimal s.price.0 ∷ sum_words s)

-- a price, or a dash where there is none
abbrev pub price_word : Option Price → List ℕ
price_word None = codes "-"
price_word (Some p) = decimal p.0

abbrev pub side_word : Side → List ℕ
side_word Buy = codes "buy"
side_word Sell = codes "sell"

-- the last line: the chosen price, the best prices of a calm book, or the side that presses
abbrev pub outcome_line : Outcome → List ℕ
outcome_line (Traded volume sums) = line (codes "price" ∷ decimal sums.price.0 ∷ decimal volume ∷ sum_words sums)
outcome_line (Calm bid ask) = line (codes "calm" ∷ price_word bid ∷ price_word ask ∷ [])
outcome_line (Pressed side price pressing facing) = line (codes "pressed" ∷ side_word side ∷ decimal price.0 ∷ decimal pressing ∷ decimal facing ∷ [])

-- the lines of a certificate
abbrev pub certificate_text : Certificate → List ℕ
certificate_text c = flat_map rejected_line c.rejected ++ outcome_line c.outcome
