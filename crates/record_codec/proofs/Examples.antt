-- Worked examples: the definitions compute to what a reader of the table would say.
use Rattle.std.specs.Prelude.{◌≡◌, ℕ, List, [], ◌∷◌, ◌++◌, replicate, slice_set, Some, None, refl}
use Rattle.mkt_base.specs.declared.event.Entry.{Entry}
use Rattle.mkt_base.specs.declared.event.Event.{Event}
use Rattle.mkt_base.specs.declared.event.Event.TheVariants.{Order, Change, Clock, Rejoin}
use Rattle.mkt_base.specs.declared.order.Kind.TheVariants.{Market, Limit}
use Rattle.mkt_base.specs.declared.order.Side.TheVariants.{Buy}
use Rattle.record_codec.specs.Check.{checks, first_false, first_used, first_wrong, is_right}
use Rattle.record_codec.specs.Entry.{spelling, spelling_in}
use Rattle.record_codec.specs.Record.{bytes_of, eight_at, eight_bytes, four_at, four_bytes, row_of, two_at, two_bytes}

-- an entry of caller 1 at place 1, its second
abbrev second : Event → Entry
second event = record { place = 1; caller = record { 0 = 1 }; own = 1; event = event }

-- its first sixteen bytes, of an event of a kind
abbrev head : ℕ → List ℕ
head kind = 1 ∷ kind ∷ 0 ∷ 1 ∷ 0 ∷ 0 ∷ 0 ∷ 1 ∷ 0 ∷ 0 ∷ 0 ∷ 0 ∷ 0 ∷ 0 ∷ 0 ∷ 1 ∷ []

abbrev a_market_order : List ℕ
a_market_order = head 1 ++ 0 ∷ 0 ∷ 1 ∷ 1 ∷ 0 ∷ 0 ∷ 0 ∷ 0 ∷ 0 ∷ 0 ∷ 1 ∷ 44 ∷ [] ++ replicate 20 0

abbrev a_clock : List ℕ
a_clock = head 4 ++ replicate 16 0 ++ 5 ∷ 38 ∷ 91 ∷ 255 ∷ [] ++ replicate 12 0

-- participant 0 buys 300 at the market
spelled_order : spelling (second (Order (record { 0 = 0 }) Buy Market (record { 0 = 300 }))) ≡ a_market_order
unfolding spelling_in bytes_of two_bytes four_bytes eight_bytes
spelled_order = refl

-- participant 258 changes its order 5 to 20000 shares at 65537
spelled_change : spelling (second (Change (record { 0 = 258 }) 5 (Limit (record { 0 = 65537 })) (record { 0 = 20000 })))
    ≡ head 2 ++ 1 ∷ 2 ∷ 0 ∷ 2 ∷ 0 ∷ 1 ∷ 0 ∷ 1 ∷ 0 ∷ 0 ∷ 78 ∷ 32 ∷ 0 ∷ 0 ∷ 0 ∷ 5 ∷ [] ++ replicate 16 0
unfolding spelling_in bytes_of two_bytes four_bytes eight_bytes
spelled_change = refl

-- the last moment of a day
spelled_clock : spelling (second (Clock 86399999)) ≡ a_clock
unfolding spelling_in bytes_of two_bytes four_bytes eight_bytes
spelled_clock = refl

spelled_rejoin : spelling (second (Rejoin 2)) ≡ head 6 ++ replicate 20 0 ++ 2 ∷ [] ++ replicate 11 0
unfolding spelling_in bytes_of two_bytes four_bytes eight_bytes
spelled_rejoin = refl

right_at_its_place : first_wrong 1 1 a_market_order ≡ None
unfolding first_wrong first_false first_used checks is_right row_of two_at four_at eight_at
right_at_its_place = refl

wrong_at_another_place : first_wrong 1 2 a_market_order ≡ Some 8
unfolding first_wrong first_false first_used checks is_right row_of two_at four_at eight_at
wrong_at_another_place = refl

of_another_form : first_wrong 2 1 a_market_order ≡ Some 0
unfolding first_wrong first_false first_used checks is_right row_of two_at four_at eight_at
of_another_form = refl

-- a market order has no limit price
a_limit_price : first_wrong 1 1 (slice_set a_market_order 23 1) ≡ Some 20
unfolding first_wrong first_false first_used checks is_right row_of two_at four_at eight_at
a_limit_price = refl

a_byte_behind : first_wrong 1 1 (slice_set a_market_order 37 1) ≡ Some 37
unfolding first_wrong first_false first_used checks is_right row_of two_at four_at eight_at
a_byte_behind = refl

-- of two wrong bytes the first
the_last_byte_too : first_wrong 1 1 (slice_set (slice_set a_market_order 47 1) 41 1) ≡ Some 41
unfolding first_wrong first_false first_used checks is_right row_of two_at four_at eight_at
the_last_byte_too = refl

-- a clock has no participant, and no moment after the day
a_participant_of_a_clock : first_wrong 1 1 (slice_set a_clock 17 1) ≡ Some 16
unfolding first_wrong first_false first_used checks is_right row_of two_at four_at eight_at
a_participant_of_a_clock = refl

after_the_day : first_wrong 1 1 (slice_set a_clock 34 92) ≡ Some 32
unfolding first_wrong first_false first_used checks is_right row_of two_at four_at eight_at
after_the_day = refl
