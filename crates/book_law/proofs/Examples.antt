-- Worked examples: the definitions compute to what a reader of the rules would say.
use Rattle.std.specs.Prelude.{◌≡◌, ℕ, List, [], ◌∷◌, refl}
use Rattle.mkt_base.specs.Fills.{from_front, less_front, pair}
use Rattle.mkt_base.specs.declared.order.Side.{Side}
use Rattle.mkt_base.specs.declared.order.Side.TheVariants.{Buy, Sell}
use Rattle.mkt_base.specs.declared.order.Spot.{Spot}
use Rattle.mkt_base.specs.declared.order.Spot.TheVariants.{Market, At}
use Rattle.mkt_base.specs.declared.order.Order.{Order}
use Rattle.book_law.specs.BookView.{taken}
use Rattle.book_law.specs.Paired.{left_front, paired, trade_of}

-- an order of no one in particular
abbrev plain_order : ℕ → Side → Spot → ℕ → Order
plain_order place side spot left = record { place = place; caller = record { 0 = 1 }; own = 0; participant = record { 0 = 0 }; side = side; spot = spot; left = left }

abbrev buyers : List Order
buyers = plain_order 1 Buy Market 300 ∷ plain_order 4 Buy (At 2) 200 ∷ []

abbrev sellers : List Order
sellers = plain_order 3 Sell (At 0) 100 ∷ plain_order 2 Sell (At 1) 350 ∷ []

-- 100 shares taken from the order at the place 4, and all that the order at the place 1 has
a_part_is_taken : taken 4 100 buyers ≡ plain_order 1 Buy Market 300 ∷ plain_order 4 Buy (At 2) 100 ∷ []
unfolding taken
a_part_is_taken = refl

all_is_taken : taken 1 300 buyers ≡ plain_order 4 Buy (At 2) 200 ∷ []
unfolding taken
all_is_taken = refl

-- of 350 shares the first buy takes 100 of the first sell and 200 of the second, and the second buy 50 more
traded_from_both_fronts : paired 1010 350 buyers sellers ≡ trade_of 1010 100 1 3 ∷ trade_of 1010 200 1 2 ∷ trade_of 1010 50 4 2 ∷ []
unfolding pair from_front less_front
traded_from_both_fronts = refl

-- what 350 shares leave of the buys: the first is gone, the second has less
left_behind_the_front : left_front 350 buyers ≡ plain_order 4 Buy (At 2) 150 ∷ []
unfolding left_front
left_behind_the_front = refl
