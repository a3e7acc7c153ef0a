-- The script that is made of a number: orders of four gateways in two issues, a quarter of them before the opening.
use Rattle.std.specs.Prelude.{ℕ, zero, suc, ◌+◌, ◌-◌, ◌*◌, ◌/◌, ◌%◌, ◌==◌, Bool, if◌then◌else◌, List, [], ◌∷◌, ◌++◌, Option, Some, None, codes}
use Rattle.std.specs.Fmt.{decimal}
use Rattle.mkt_base.specs.Certificate.{side_word}
use Rattle.mkt_base.specs.Text.{line}
use Rattle.mkt_base.specs.declared.order.Side.{Side}
use Rattle.mkt_base.specs.declared.order.Side.TheVariants.{Buy, Sell}
use Rattle.script_file.specs.declared.draws.DrawnOrder.{DrawnOrder}

-- ---- the draws

-- the generator's next state: the last one times 1,103,515,245 and 12,345 more, of which the 31 low bits stay
unfoldable pub next_state : ℕ → ℕ
next_state x = (x * 1103515245 + 12345) % 2147483648

-- what a draw among n numbers gives, by the state that it leads to: its low 16 bits do not count
unfoldable pub drawn : ℕ → ℕ → ℕ
drawn n x = x / 65536 % n

-- ---- an order: its gateway, issue, participant, side, whether it is a market order, its limit if it is not, and its quantity are drawn
-- in this order

-- the base price of the first issue, and of the second
abbrev pub base_price : ℕ → ℕ
base_price zero = 20000
base_price (suc n) = 12000

abbrev pub drawn_side : ℕ → Side
drawn_side zero = Buy
drawn_side (suc n) = Sell

-- one in ten is a market order
unfoldable pub is_market : ℕ → Bool
is_market x = drawn 10 (next_state x) == 0

-- the limit, at most 300 from the base price; none of a market order
unfoldable pub drawn_limit : ℕ → ℕ → Option ℕ
drawn_limit issue x = if is_market x then None else Some (drawn 61 (next_state (next_state x)) * 10 + base_price issue - 300)

-- the state behind these draws
unfoldable pub behind_limit : ℕ → ℕ
behind_limit x = if is_market x then next_state x else next_state (next_state x)

-- the state behind the draws of gateway, issue, participant and side
unfoldable pub behind_side : ℕ → ℕ
behind_side x = next_state (next_state (next_state (next_state x)))

-- the order that is drawn from a state
unfoldable pub order_from : ℕ → DrawnOrder
order_from x =
    let issue : ℕ = drawn 2 (next_state (next_state x)) in
    record {
      gateway = drawn 4 (next_state x) + 1;
      issue = issue;
      participant = drawn 8 (next_state (next_state (next_state x))) + 1;
      side = drawn_side (drawn 2 (behind_side x));
      limit = drawn_limit issue (behind_side x);
      quantity = (drawn 10 (next_state (behind_limit (behind_side x))) + 1) * 100;
    }

-- the state behind an order
unfoldable pub behind_order : ℕ → ℕ
behind_order x = next_state (behind_limit (behind_side x))

-- the state before the order with this number, from 0 on
unfoldable pub state_before : ℕ → ℕ → ℕ
state_before number zero = number
state_before number (suc i) = behind_order (state_before number i)

-- ---- the text

-- the letter g and a digit, and the letter p and one
abbrev pub gateway_word : ℕ → List ℕ
gateway_word n = 103 ∷ (48 + n) ∷ []

abbrev pub participant_word : ℕ → List ℕ
participant_word n = 112 ∷ (48 + n) ∷ []

abbrev pub issue_word : ℕ → List ℕ
issue_word zero = codes "AAAA"
issue_word (suc n) = codes "BBBB"

-- a limit, or `market`
abbrev pub limit_word : Option ℕ → List ℕ
limit_word None = codes "market"
limit_word (Some price) = decimal price

abbrev pub order_line : DrawnOrder → List ℕ
order_line o =
    line (gateway_word o.gateway ∷ issue_word o.issue ∷ codes "order" ∷ participant_word o.participant ∷ side_word o.side ∷ limit_word o.limit ∷ decimal o.quantity ∷ [])

abbrev pub barrier_line : List ℕ
barrier_line = line (codes "barrier" ∷ [])

-- the clock moves on in both issues
abbrev pub clock_line : List ℕ → List ℕ
clock_line at = line (codes "g1" ∷ codes "*" ∷ codes "clock" ∷ at ∷ [])

-- the stage of the opening
abbrev pub opening_lines : List ℕ
opening_lines = barrier_line ++ clock_line (codes "09:00:00.000") ++ barrier_line

-- the line of the order with this number, behind the opening where it is the first one after it
abbrev pub order_lines : ℕ → ℕ → ℕ → List ℕ
order_lines number quarter i = (if i == quarter then opening_lines else []) ++ order_line (order_from (state_before number i))

-- the lines of the first so many orders
unfoldable pub orders_text : ℕ → ℕ → ℕ → List ℕ
orders_text number quarter zero = []
orders_text number quarter (suc i) = orders_text number quarter i ++ order_lines number quarter i

-- the script of a number and so many orders
abbrev pub generated : ℕ → ℕ → List ℕ
generated number orders =
    clock_line (codes "08:00:00.000") ++ orders_text number (orders / 4) orders ++ barrier_line ++ clock_line (codes "15:00:00.000")
