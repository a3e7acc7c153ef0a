-- Lemmas on the best bid, the best ask, and whether nobody presses.
use Rattle.std.proofs.Common.{◌≡◌, ℕ, ◌+◌, ◌<◌, ◌≤◌, Bool, true, false, not, nat_le, ◌&&◌, ◌||◌, min, max, List, [], ◌∷◌, ◌++◌, length, get_or, take, take_all, Option, Some, None, option_map, refl, sym, ap, ◌∙◌, arith}
use Rattle.std.specs.List.{list_any, cons_option}
use Rattle.std.proofs.lemmas.List.{take_more}
use Rattle.std.proofs.lemmas.List.Elements.{filter_map-append}
use Rattle.std.proofs.lemmas.Bool.Decides.{nat_tests}
use Rattle.mkt_base.specs.declared.units.Price.{Price}
use Rattle.mkt_base.specs.declared.order.Order.{Order}
use Rattle.auction_law.specs.Attempt.{higher, lower, greatest, least, side_limit, limits, crosses, best_bid, best_ask, all_limited, is_calm}

pub higher-assoc : (a b c : Option ℕ) → higher a (higher b c) ≡ higher (higher a b) c
higher-assoc None b c = refl
higher-assoc (Some p) None c = refl
higher-assoc (Some p) (Some q) None = refl
higher-assoc (Some p) (Some q) (Some r) = ap Some (omega arith)

pub lower-assoc : (a b c : Option ℕ) → lower a (lower b c) ≡ lower (lower a b) c
lower-assoc None b c = refl
lower-assoc (Some p) None c = refl
lower-assoc (Some p) (Some q) None = refl
lower-assoc (Some p) (Some q) (Some r) = ap Some (omega arith)

pub greatest-append : (xs ys : List ℕ) → greatest (xs ++ ys) ≡ higher (greatest xs) (greatest ys)
greatest-append [] ys = refl
greatest-append (x ∷ xs) ys = ap (higher (Some x)) (greatest-append xs ys) ∙ higher-assoc (Some x) (greatest xs) (greatest ys)

pub least-append : (xs ys : List ℕ) → least (xs ++ ys) ≡ lower (least xs) (least ys)
least-append [] ys = refl
least-append (x ∷ xs) ys = ap (lower (Some x)) (least-append xs ys) ∙ lower-assoc (Some x) (least xs) (least ys)

pub greatest-one : (limit : Option ℕ) → greatest (cons_option limit []) ≡ limit
greatest-one None = refl
greatest-one (Some p) = refl

pub least-one : (limit : Option ℕ) → least (cons_option limit []) ≡ limit
least-one None = refl
least-one (Some p) = refl

-- the limits of one order more
pub limits-more : (grid : List Price) (buying : Bool) (orders : List Order) (i : ℕ) (d : Order) → i < length orders
    → limits grid buying (take (i + 1) orders) ≡ limits grid buying (take i orders) ++ cons_option (side_limit grid buying (get_or orders i d)) []
limits-more grid buying orders i d l = ap (limits grid buying) (take_more orders i d l) ∙ filter_map-append (side_limit grid buying) (take i orders) (get_or orders i d ∷ [])

-- the steps of the loops that keep the best limit so far
pub bid-more : (grid : List Price) (orders : List Order) (i : ℕ) (d : Order) (best limit new : Option ℕ) → i < length orders
    → best ≡ greatest (limits grid true (take i orders)) → limit ≡ side_limit grid true (get_or orders i d) → new ≡ higher best limit
    → new ≡ greatest (limits grid true (take (i + 1) orders))
bid-more grid orders i d best limit new l b k n =
    let e : greatest (limits grid true (take (i + 1) orders)) ≡ higher (greatest (limits grid true (take i orders))) (side_limit grid true (get_or orders i d)) =
    ap greatest (limits-more grid true orders i d l)
    ∙ greatest-append (limits grid true (take i orders)) (cons_option (side_limit grid true (get_or orders i d)) [])
    ∙ ap (higher (greatest (limits grid true (take i orders)))) (greatest-one (side_limit grid true (get_or orders i d))) in
    n ∙ ap (λ b. higher b limit) b ∙ ap (higher (greatest (limits grid true (take i orders)))) k ∙ sym e

pub ask-more : (grid : List Price) (orders : List Order) (i : ℕ) (d : Order) (best limit new : Option ℕ) → i < length orders
    → best ≡ least (limits grid false (take i orders)) → limit ≡ side_limit grid false (get_or orders i d) → new ≡ lower best limit
    → new ≡ least (limits grid false (take (i + 1) orders))
ask-more grid orders i d best limit new l b k n =
    let e : least (limits grid false (take (i + 1) orders)) ≡ lower (least (limits grid false (take i orders))) (side_limit grid false (get_or orders i d)) =
    ap least (limits-more grid false orders i d l)
    ∙ least-append (limits grid false (take i orders)) (cons_option (side_limit grid false (get_or orders i d)) [])
    ∙ ap (lower (least (limits grid false (take i orders)))) (least-one (side_limit grid false (get_or orders i d))) in
    n ∙ ap (λ b. lower b limit) b ∙ ap (lower (least (limits grid false (take i orders)))) k ∙ sym e

-- between a price and its number
pub price-of_number : (p : Option Price) → p ≡ option_map (λ q. record { 0 = q }) (option_map (λ q. q.0) p)
price-of_number None = refl
price-of_number (Some p) = refl

pub number-of_price : (p : Option ℕ) → option_map (λ q. q.0) (option_map {T = ℕ} {U = Price} (λ q. record { 0 = q }) p) ≡ p
number-of_price None = refl
number-of_price (Some p) = refl

-- at the loops' ends
pub bid-all : (grid : List Price) (orders : List Order) (i : ℕ) (best : Option Price) → length orders ≤ i → option_map (λ p. p.0) best ≡ greatest (limits grid true (take i orders)) → best ≡ best_bid grid orders
bid-all grid orders i best l e = price-of_number best ∙ ap (option_map (λ q. record { 0 = q })) (e ∙ ap (λ os. greatest (limits grid true os)) (take_all i orders l))

pub ask-all : (grid : List Price) (orders : List Order) (i : ℕ) (best : Option Price) → length orders ≤ i → option_map (λ p. p.0) best ≡ least (limits grid false (take i orders)) → best ≡ best_ask grid orders
ask-all grid orders i best l e = price-of_number best ∙ ap (option_map (λ q. record { 0 = q })) (e ∙ ap (λ os. least (limits grid false os)) (take_all i orders l))

-- some limit sell is at or below the price where the lowest is
at_or_below : ℕ → Option ℕ → Bool
at_or_below bid None = false
at_or_below bid (Some ask) = nat_le ask bid

or-none : (b : Bool) → (b || false) ≡ b
or-none true = refl
or-none false = refl

either-below : (bid a b : ℕ) → (nat_le a bid || nat_le b bid) ≡ nat_le (min a b) bid
either-below bid a b = grind (arith, nat_tests)

either-above : (a p q : ℕ) → (nat_le a p || nat_le a q) ≡ nat_le a (max p q)
either-above a p q = grind (arith, nat_tests)

lower-below : (bid a : ℕ) (ask : Option ℕ) → (nat_le a bid || at_or_below bid ask) ≡ at_or_below bid (lower (Some a) ask)
unfolding at_or_below
lower-below bid a None = or-none (nat_le a bid)
lower-below bid a (Some b) = either-below bid a b

any-below : (bid : ℕ) (asks : List ℕ) → list_any (λ ask. nat_le ask bid) asks ≡ at_or_below bid (least asks)
unfolding at_or_below
any-below bid [] = refl
any-below bid (a ∷ others) = ap (λ b. nat_le a bid || b) (any-below bid others) ∙ lower-below bid a (least others)

one-crosses : (bid : ℕ) (best ask : Option ℕ) → (at_or_below bid ask || crosses best ask) ≡ crosses (higher (Some bid) best) ask
unfolding at_or_below
one-crosses bid None None = refl
one-crosses bid None (Some a) = or-none (nat_le a bid)
one-crosses bid (Some b) None = refl
one-crosses bid (Some b) (Some a) = either-above a bid b

-- some limit buy crosses some limit sell where the best ones do
pub any-crosses : (bids asks : List ℕ) → list_any (λ bid. list_any (λ ask. nat_le ask bid) asks) bids ≡ crosses (greatest bids) (least asks)
any-crosses [] asks = at (least asks)
  where
    at : (o : Option ℕ) → false ≡ crosses None o
    at None = refl
    at (Some a) = refl
any-crosses (b ∷ bs) asks =
    ap (λ x. x || list_any (λ bid. list_any (λ ask. nat_le ask bid) asks) bs) (any-below b asks)
    ∙ ap (λ x. at_or_below b (least asks) || x) (any-crosses bs asks)
    ∙ one-crosses b (greatest bs) (least asks)

-- calm by the best prices
pub calm-by_best : (grid : List Price) (orders : List Order) (bid ask : Option Price) (limited crossing : Bool) → bid ≡ best_bid grid orders → ask ≡ best_ask grid orders
    → limited ≡ all_limited grid orders → crossing ≡ crosses (option_map (λ p. p.0) bid) (option_map (λ p. p.0) ask)
    → is_calm grid orders ≡ (limited && not crossing)
unfolding is_calm
calm-by_best grid orders bid ask limited crossing b a l c =
    let gb : option_map (λ p. p.0) bid ≡ greatest (limits grid true orders) = ap (option_map (λ p. p.0)) b ∙ number-of_price (greatest (limits grid true orders)) in
    let ga : option_map (λ p. p.0) ask ≡ least (limits grid false orders) = ap (option_map (λ p. p.0)) a ∙ number-of_price (least (limits grid false orders)) in
    let e : list_any (λ bid. list_any (λ ask. nat_le ask bid) (limits grid false orders)) (limits grid true orders) ≡ crossing =
    any-crosses (limits grid true orders) (limits grid false orders) ∙ ap (λ x. crosses x (least (limits grid false orders))) (sym gb) ∙ ap (crosses (option_map (λ p. p.0) bid)) (sym ga) ∙ sym c in
    ap (λ x. all_limited grid orders && not x) e ∙ ap (λ x. x && not crossing) (sym l)
