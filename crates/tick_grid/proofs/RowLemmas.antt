-- Rows taken one after another: what is on tick up to a bound is on tick below it, and the multiples of the row's tick from
-- there on.
use Rattle.std.proofs.Common.{◌≡◌, ℕ, ◌+◌, ◌-◌, ◌%◌, ◌<◌, ◌≤◌, min, max, Bool, true, false, eqb, leb, ltb, List, [], ◌++◌, length, get_or, map, Option, Some, inl, inr, sym, ap, ◌∙◌, arith}
use Rattle.std.specs.List.{filter, find, range_with_len, slice_get, All}
use Rattle.std.specs.Option.{option_map_or}
use Rattle.std.proofs.lemmas.Bool.{cases_lt, le-leb, lt-leb, lt-ltb, le-ltb}
use Rattle.std.proofs.lemmas.List.{get_or_default, length-append, length-map, map-append}
use Rattle.std.proofs.Math.ListN.{get_or-map}
use Rattle.std.proofs.lemmas.List.Kept.{AllPairs-filter}
use Rattle.std.proofs.lemmas.List.Elements.{filter-append, All-filter, All-map, All-weaker}
use Rattle.std.proofs.lemmas.List.Folds.{find_at}
use Rattle.std.proofs.lemmas.List.Sums.{count_by-le-length, length-filter, position_or_len_is}
use Rattle.std.proofs.lemmas.List.FromFn.{length-range_with_len}
use Rattle.std.proofs.lemmas.Option.{slice_get-get_or}
use Rattle.mkt_base.specs.Book.{IsRising, price_at}
use Rattle.mkt_base.specs.declared.units.Price.{Price}
use Rattle.tick_grid.specs.Rows.{AreTickRows, band_of, is_on_tick, grid_of, multiples, price_of, prices_on_tick}
use Rattle.tick_grid.specs.declared.rows.BandRow.{BandRow}
use Rattle.tick_grid.specs.declared.rows.TickRow.{TickRow}
use Rattle.tick_grid.specs.Grid.{IsGrid}
use Rattle.tick_grid.proofs.MultipleLemmas.{filter-agree, range-parts, range-rises, range-within}

-- the first that passes
find-first : {X : Type 0} (p : X → Bool) (xs : List X) (i : ℕ) (d : X) → i < length xs → ((k : ℕ) → k < i → p (get_or xs k d) ≡ false)
    → p (get_or xs i d) ≡ true → find p xs ≡ Some (get_or xs i d)
find-first p xs i d inside before here =
    find_at p xs ∙ ap (slice_get xs) (position_or_len_is p xs i d (omega arith) before (λ _. here)) ∙ slice_get-get_or xs i d inside

-- so far: `from` is the least price that the rows before i do not reach, up to high
pub record Passed (rows : List TickRow) (low high from i : ℕ) : Type 0 where
  pub start : low ≤ from
  pub upto : from ≤ max low (high + 1)
  pub past : (k : ℕ) (d : TickRow) → k < i → min (get_or rows k d).upto high < from

-- the prices on tick from low to just before `from`
unfoldable pub prices_before : List TickRow → ℕ → ℕ → List ℕ
prices_before rows low from = filter (is_on_tick rows) (range_with_len low (from - low))

on_tick-at : (rows : List TickRow) (low high from i p : ℕ) (d : TickRow) → Passed rows low high from i → i < length rows → from ≤ p
    → p ≤ min (get_or rows i d).upto high → is_on_tick rows p ≡ eqb (p % (get_or rows i d).tick) 0
on_tick-at rows low high from i p d passed inside least most =
    let test : TickRow → Bool = λ row. leb p row.upto in
    let before : (k : ℕ) → k < i → test (get_or rows k d) ≡ false = λ k less. lt-leb p (get_or rows k d).upto (omega (arith, passed.past k d less)) in
    let here : test (get_or rows i d) ≡ true = le-leb p (get_or rows i d).upto (omega arith) in
    ap (λ (o : Option TickRow). option_map_or (λ row. eqb (p % row.tick) 0) o false) (find-first test rows i d inside before here)

-- a row adds the multiples of its tick
pub prices-more : (rows : List TickRow) (low high from i to : ℕ) (d : TickRow) → Passed rows low high from i → i < length rows
    → to ≡ min (get_or rows i d).upto high → from ≤ to
    → prices_before rows low (to + 1) ≡ prices_before rows low from ++ multiples (get_or rows i d).tick from (to + 1 - from)
unfolding prices_before multiples
prices-more rows low high from i to d passed inside end order =
    let all : to + 1 - low ≡ (from - low) + (to + 1 - from) = omega (arith, passed.start) in
    let start : low + (from - low) ≡ from = omega (arith, passed.start) in
    let test : ℕ → Bool = is_on_tick rows in
    let same : (x : ℕ) → from ≤ x → x < from + (to + 1 - from) → test x ≡ eqb (x % (get_or rows i d).tick) 0 =
    λ x least most. on_tick-at rows low high from i x d passed inside least (omega (arith, end)) in
    ap (λ n. filter test (range_with_len low n)) all
    ∙ ap (filter test) (range-parts low (from - low) (to + 1 - from))
    ∙ filter-append test (range_with_len low (from - low)) (range_with_len (low + (from - low)) (to + 1 - from))
    ∙ ap (λ a. filter test (range_with_len low (from - low)) ++ filter test (range_with_len a (to + 1 - from))) start
    ∙ ap (λ xs. filter test (range_with_len low (from - low)) ++ xs) (filter-agree test (λ x. eqb (x % (get_or rows i d).tick) 0) from (to + 1 - from) same)

-- at the start no row has been taken
pub Passed-none : (rows : List TickRow) (low high : ℕ) → Passed rows low high low 0
Passed-none rows low high = record {
  start = omega arith;
  upto = omega arith;
  past = λ k d less. absurd (omega arith);
}

pub prices-none : (rows : List TickRow) (low : ℕ) → prices_before rows low low ≡ []
unfolding prices_before
prices-none rows low =
    let none : low - low ≡ 0 = omega arith in
    ap (λ n. filter (is_on_tick rows) (range_with_len low n)) none

-- what the rows before i do not reach, and the row at i does not reach, the rows before i + 1 do not reach
past-more : (rows : List TickRow) (high bound i : ℕ) (d : TickRow) → i < length rows → min (get_or rows i d).upto high < bound
    → ((k : ℕ) (e : TickRow) → k < i → min (get_or rows k e).upto high < bound) → (k : ℕ) (e : TickRow) → k < i + 1 → min (get_or rows k e).upto high < bound
past-more rows high bound i d inside here before k e less =
    elim (cases_lt k i) [
      | inl sooner ↦ before k e sooner
      | inr late ↦
          let at : k ≡ i = omega arith in
          let same : get_or rows k e ≡ get_or rows i d = ap (λ j. get_or rows j e) at ∙ get_or_default rows i e d inside in
          omega (arith, here, ap (λ (r : TickRow). r.upto) same)
    ]

-- the row at i is taken
pub Passed-taken : (rows : List TickRow) (low high from i to : ℕ) (d : TickRow) → Passed rows low high from i → i < length rows
    → to ≡ min (get_or rows i d).upto high → from ≤ to → Passed rows low high (to + 1) (i + 1)
Passed-taken rows low high from i to d passed inside end order = record {
  start = omega (arith, passed.start);
  upto = omega (arith, end);
  past = past-more rows high (to + 1) i d inside (omega (arith, end)) (λ k e less. omega (arith, passed.past k e less));
}

-- the row at i does not reach `from`
pub Passed-left : (rows : List TickRow) (low high from i to : ℕ) (d : TickRow) → Passed rows low high from i → i < length rows
    → to ≡ min (get_or rows i d).upto high → to < from → Passed rows low high from (i + 1)
Passed-left rows low high from i to d passed inside end less = record {
  start = passed.start;
  upto = passed.upto;
  past = past-more rows high from i d inside (omega (arith, end)) passed.past;
}

-- all rows are taken: what is before `from` is all
pub prices-all : (rows : List TickRow) (low high from i : ℕ) (d : TickRow) → AreTickRows rows → high ≤ 1000000000 → Passed rows low high from i → length rows ≤ i
    → prices_before rows low from ≡ prices_on_tick rows low high
unfolding prices_before prices_on_tick
prices-all rows low high from i d are most passed all =
    let last = are.last d in
    let beyond = passed.past (length rows - 1) d (omega (arith, are.some)) in
    let same : from - low ≡ high + 1 - low = omega (arith, last, beyond, passed.start, passed.upto) in
    ap (λ n. filter (is_on_tick rows) (range_with_len low n)) same

-- no more prices are on tick than there are
pub prices_before-few : (rows : List TickRow) (low from : ℕ) → length (prices_before rows low from) ≤ from - low
unfolding prices_before
prices_before-few rows low from =
    let all = range_with_len low (from - low) in
    omega (arith, length-filter (is_on_tick rows) all, count_by-le-length (is_on_tick rows) all, length-range_with_len low (from - low))

-- so many more prices are on tick
pub counted-more : (rows : List TickRow) (low high from i to : ℕ) (d : TickRow) → Passed rows low high from i → i < length rows
    → to ≡ min (get_or rows i d).upto high → from ≤ to
    → length (prices_before rows low (to + 1)) ≡ length (prices_before rows low from) + length (multiples (get_or rows i d).tick from (to + 1 - from))
counted-more rows low high from i to d passed inside end order =
    ap length (prices-more rows low high from i to d passed inside end order)
    ∙ length-append (prices_before rows low from) (multiples (get_or rows i d).tick from (to + 1 - from))

-- and listed
pub listed-more : (rows : List TickRow) (low high from i to : ℕ) (d : TickRow) (items more : List Price) → Passed rows low high from i → i < length rows
    → to ≡ min (get_or rows i d).upto high → from ≤ to
    → items ≡ map price_of (prices_before rows low from) → more ≡ items ++ map price_of (multiples (get_or rows i d).tick from (to + 1 - from))
    → more ≡ map price_of (prices_before rows low (to + 1))
listed-more rows low high from i to d items more passed inside end order listed pushed =
    pushed
    ∙ ap (λ xs. xs ++ map price_of (multiples (get_or rows i d).tick from (to + 1 - from))) listed
    ∙ sym (
    ap (map price_of) (prices-more rows low high from i to d passed inside end order)
    ∙ map-append price_of (prices_before rows low from) (multiples (get_or rows i d).tick from (to + 1 - from))
    )

-- the row of a band
pub band_of-at : (rows : List BandRow) (i p : ℕ) (d : BandRow) → i < length rows → ((k : ℕ) → k < i → (get_or rows k d).below ≤ p)
    → p < (get_or rows i d).below → band_of rows p ≡ (get_or rows i d).value
band_of-at rows i p d inside before here =
    let test : BandRow → Bool = λ row. ltb p row.below in
    let found = find-first test rows i d inside (λ k less. le-ltb p (get_or rows k d).below (before k less)) (lt-ltb p (get_or rows i d).below here) in
    ap (λ (o : Option BandRow). option_map_or (λ row. row.value) o 0) found

-- the prices on tick are a grid where they are 1 to 20,000
pub length-grid_of : (rows : List TickRow) (low high : ℕ) → length (grid_of rows low high) ≡ length (prices_on_tick rows low high)
unfolding grid_of
length-grid_of rows low high = length-map (prices_on_tick rows low high) price_of

pub price_at-prices : (xs : List ℕ) (i : ℕ) → price_at (map price_of xs) i ≡ get_or xs i 0
price_at-prices xs i = ap (λ (p : Price). p.0) (get_or-map price_of xs i 0)

pub grid_of-rises : (rows : List TickRow) (low high : ℕ) → IsRising (grid_of rows low high)
unfolding grid_of prices_on_tick
grid_of-rises rows low high i j less inside =
    let xs = prices_on_tick rows low high in
    let rise = AllPairs-filter (λ x y. x < y) (is_on_tick rows) (range_with_len low (high + 1 - low)) (range-rises low (high + 1 - low)) in
    omega (arith, price_at-prices xs i, price_at-prices xs j, rise i j 0 less (omega (arith, length-map xs price_of)))

pub grid_of-within : (rows : List TickRow) (low high : ℕ) → 1 ≤ low → high ≤ 1000000000
    → All (λ (p : Price). (1 ≤ p.0) × (p.0 ≤ 1000000000)) (grid_of rows low high)
unfolding grid_of prices_on_tick
grid_of-within rows low high least most =
    let all = range_with_len low (high + 1 - low) in
    let numbers = All-weaker (λ x. (low ≤ x) × (x < low + (high + 1 - low))) (λ x. (1 ≤ x) × (x ≤ 1000000000)) (λ x h. (omega (arith, h.0), omega (arith, h.1))) all (range-within low (high + 1 - low)) in
    All-map (λ (p : Price). (1 ≤ p.0) × (p.0 ≤ 1000000000)) price_of _ (All-filter (is_on_tick rows) (λ x. (1 ≤ x) × (x ≤ 1000000000)) all numbers)

pub grid_of-IsGrid : (rows : List TickRow) (low high : ℕ) → 1 ≤ low → high ≤ 1000000000 → 1 ≤ length (grid_of rows low high) → length (grid_of rows low high) ≤ 20000
    → IsGrid (grid_of rows low high)
grid_of-IsGrid rows low high least most some few = record {
  rising = grid_of-rises rows low high;
  some = some;
  few = few;
  within = grid_of-within rows low high least most;
}
