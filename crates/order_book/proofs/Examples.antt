-- Worked examples: the definitions compute to what a reader of the rules would say.
use Rattle.std.specs.Prelude.{◌≡◌, ℕ, List, [], ◌∷◌, true, false, refl}
use Rattle.mkt_base.specs.Book.{total_left}
use Rattle.mkt_base.specs.declared.order.Side.{Side}
use Rattle.mkt_base.specs.declared.order.Side.TheVariants.{Buy, Sell}
use Rattle.mkt_base.specs.declared.order.Spot.{Spot}
use Rattle.mkt_base.specs.declared.order.Spot.TheVariants.{Market, At}
use Rattle.mkt_base.specs.declared.order.Order.{Order}
use Rattle.order_book.specs.Limits.{is_limit_to}
use Rattle.order_book.specs.Linked.{bucket_of, level_no}
use Rattle.order_book.specs.Plain.{is_ahead, is_behind}

abbrev order : ℕ → Side → Spot → ℕ → Order
order place side spot left = record { place = place; caller = record { 0 = 1 }; own = place; participant = record { 0 = 0 }; side = side; spot = spot; left = left }

-- two limit sells, a market sell and a limit buy
abbrev four : List Order
four = order 1 Sell (At 1) 300 ∷ order 2 Sell (At 3) 200 ∷ order 3 Sell Market 50 ∷ order 4 Buy (At 1) 70 ∷ []

sells_up_to_the_third : total_left (is_limit_to Sell 2) four ≡ 300
unfolding total_left
sells_up_to_the_third = refl

sells_up_to_the_fourth : total_left (is_limit_to Sell 3) four ≡ 500
unfolding total_left
sells_up_to_the_fourth = refl

no_sells_at_the_first : total_left (is_limit_to Sell 0) four ≡ 0
unfolding total_left
no_sells_at_the_first = refl

buys_up_to_the_second : total_left (is_limit_to Buy 1) four ≡ 70
unfolding total_left
buys_up_to_the_second = refl

the_market_has_the_first_lists : level_no Sell Market ≡ 1
the_market_has_the_first_lists = refl

two_lists_a_position : level_no Sell (At 3) ≡ 9
two_lists_a_position = refl

a_bucket : bucket_of 10 (record { 0 = 1 }) 2 ≡ 1
a_bucket = refl

the_next_number_is_beside_it : bucket_of 10 (record { 0 = 1 }) 3 ≡ 2
the_next_number_is_beside_it = refl

lower_buys_are_behind : is_behind 8 Buy (At 5) (order 1 Buy (At 3) 10) ≡ true
lower_buys_are_behind = refl

lower_sells_are_not : is_behind 8 Sell (At 5) (order 1 Sell (At 3) 10) ≡ false
lower_sells_are_not = refl

limits_are_behind_the_market : is_behind 8 Sell Market (order 1 Sell (At 0) 10) ≡ true
limits_are_behind_the_market = refl

the_market_is_behind_nothing : is_behind 8 Buy (At 7) (order 1 Buy Market 10) ≡ false
the_market_is_behind_nothing = refl

earlier_at_one_spot : is_ahead 8 Buy (order 1 Buy (At 3) 10) (order 2 Buy (At 3) 10) ≡ true
earlier_at_one_spot = refl
