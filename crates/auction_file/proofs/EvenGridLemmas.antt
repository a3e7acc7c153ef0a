-- The position of a price on an evenly spaced grid.
use Rattle.std.proofs.Common.{◌≡◌, ◌≢◌, ℕ, ◌+◌, ◌-◌, ◌*◌, ◌/◌, ◌%◌, ◌^◌, ◌∙◌, ◌<◌, ◌≤◌, true, false, eqb, length, get_or, Some, None, ap, eq-eqb, arith}
use Rattle.std.proofs.lemmas.List.Sums.{position_or_len_is}
use Rattle.std.proofs.lemmas.List.FromFn.{length-map-range_with_len, get_or-map-range_with_len}
use Rattle.std.proofs.lemmas.Bool.Decides.{nat_tests}
use Rattle.std.proofs.Math.Nat.{div-add-mod, mod-lt, mul-add, mul-le-mul_left, mul-le-mul_right, mul-one, mul_assoc}
use Rattle.std.proofs.lemmas.Nat.{div-mul-add}
use Rattle.mkt_base.specs.declared.units.Price.{Price}
use Rattle.mkt_base.specs.Book.{IsRising, price_at}
use Rattle.auction_file.specs.EvenGrid.{EvenGrid, IsEvenGrid, grid_prices, position_on, scale_of}

abbrev price_of : EvenGrid → ℕ → Price
price_of grid i = record { 0 = grid.low + i * grid.tick }

abbrev zero_price : Price
zero_price = record { 0 = 0 }

pub length-grid_prices : (grid : EvenGrid) → length (grid_prices grid) ≡ grid.count
unfolding grid_prices
length-grid_prices grid = length-map-range_with_len (price_of grid) 0 grid.count

-- the price at a position
pub grid_prices-at : (grid : EvenGrid) (i : ℕ) → i < grid.count → get_or (grid_prices grid) i zero_price ≡ price_of grid i
unfolding grid_prices
grid_prices-at grid i h = get_or-map-range_with_len (price_of grid) 0 grid.count i i zero_price h (omega arith)

differs : (a b : ℕ) → a ≢ b → eqb a b ≡ false
differs a b h = grind (arith, nat_tests)

-- the price is at position i, and at none before
pub position_on-at : (grid : EvenGrid) (p i : ℕ) → 1 ≤ grid.tick → i < grid.count → grid.low + i * grid.tick ≡ p → position_on grid p ≡ Some i
unfolding position_on
position_on-at grid p i tick lt e =
    let test = λ (price : Price). eqb price.0 p in
    let before : (k : ℕ) → k < i → test (get_or (grid_prices grid) k zero_price) ≡ false =
    λ k below. rw (grid_prices-at grid k (omega arith)) (differs _ _ (λ same. absurd (omega (arith, mul-le-mul_right {m = k + 1} {n = i} grid.tick (omega arith))))) in
    let here : i < length (grid_prices grid) → test (get_or (grid_prices grid) i zero_price) ≡ true =
    λ _. rw (grid_prices-at grid i lt) (eq-eqb _ _ e) in
    let first = position_or_len_is test (grid_prices grid) i zero_price (omega (arith, length-grid_prices grid)) before here in
    let inside : i < length (grid_prices grid) = omega (arith, length-grid_prices grid) in
    rw first (grind (arith, nat_tests))

-- no position has the price
pub position_on-none : (grid : EvenGrid) (p : ℕ) → ((k : ℕ) → k < grid.count → grid.low + k * grid.tick ≢ p) → position_on grid p ≡ None
unfolding position_on
position_on-none grid p none =
    let test = λ (price : Price). eqb price.0 p in
    let size = length-grid_prices grid in
    let before : (k : ℕ) → k < length (grid_prices grid) → test (get_or (grid_prices grid) k zero_price) ≡ false =
    λ k below. let within : k < grid.count = omega (arith, size) in rw (grid_prices-at grid k within) (differs _ _ (none k within)) in
    let first = position_or_len_is test (grid_prices grid) (length (grid_prices grid)) zero_price (omega arith) before (λ h. absurd (omega (arith, h))) in
    rw first (grind (arith, nat_tests))

pub price_at-grid_prices : (grid : EvenGrid) (i : ℕ) → i < grid.count → price_at (grid_prices grid) i ≡ grid.low + i * grid.tick
price_at-grid_prices grid i h = ap (λ (p : Price). p.0) (grid_prices-at grid i h)

pub IsRising-grid_prices : (grid : EvenGrid) → IsEvenGrid grid → IsRising (grid_prices grid)
IsRising-grid_prices grid is i j less inside =
    let within : j < grid.count = omega (arith, length-grid_prices grid) in
    let apart = mul-le-mul_right {m = i + 1} {n = j} grid.tick (omega arith) in
    omega (arith, apart, is.tick, price_at-grid_prices grid i (omega arith), price_at-grid_prices grid j within)

-- a position times the tick, scaled, is the position again, as far as prices go
pub position_of_product : (tick k : ℕ) → 1 ≤ tick → k * tick < 2 ^ 32 → k * tick * scale_of tick / 2 ^ 32 ≡ k
position_of_product tick k positive small =
    let whole = 2 ^ 32 in
    let q = whole / tick in
    let r = whole % tick in
    let parts : tick * q + r ≡ whole = div-add-mod whole tick in
    let below : r < tick = mod-lt whole positive in
    let more : ℕ = tick - r in
    let scaled : tick * scale_of tick ≡ whole + more = mul-add tick q 1 ∙ omega (arith, parts, below, mul-one tick) in
    let product : k * tick * scale_of tick ≡ k * whole + k * more = mul_assoc k tick (scale_of tick) ∙ ap (λ n. k * n) scaled ∙ mul-add k whole more in
    let rest : k * more < whole = omega (arith, mul-le-mul_left {m = more} {n = tick} k (omega arith), small) in
    ap (λ n. n / whole) product ∙ div-mul-add k whole (k * more) rest
