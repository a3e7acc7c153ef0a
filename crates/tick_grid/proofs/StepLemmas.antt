-- The prices one range up and down, by the positions that are found.
use Rattle.std.proofs.Common.{◌≡◌, ◌≢◌, ℕ, ◌+◌, ◌-◌, ◌<◌, min, max, inl, inr, eqb, List, length, Option, Some, None, refl, sym, ap, ◌∙◌, arith}
use Rattle.std.specs.Option.{option_map_or}
use Rattle.std.proofs.lemmas.Bool.{cases_lt, cond-true, cond-false, eq-eqb, ne_eqb}
use Rattle.mkt_base.specs.Book.{IsRising, price_at}
use Rattle.mkt_base.specs.declared.units.Price.{Price}
use Rattle.tick_grid.specs.Grid.{ceil_of, first_price, floor_of, last_price}
use Rattle.tick_grid.specs.Range.{down_of, greatest_upto, least_from, up_of}
use Rattle.tick_grid.specs.Rows.{band_of}
use Rattle.tick_grid.specs.declared.rows.BandRow.{BandRow}
use Rattle.tick_grid.proofs.GridLemmas.{ceil_of-between, floor_of-between, not-falling}

-- the greater of two prices stands at the greater position
price-max : (prices : List Price) (i j : ℕ) → IsRising prices → i < length prices → j < length prices
    → price_at prices (max i j) ≡ max (price_at prices i) (price_at prices j)
price-max prices i j rising in_i in_j =
    elim (cases_lt i j) [
      | inl less ↦
          let at : max i j ≡ j = omega arith in
          omega (arith, ap (price_at prices) at, rising i j less in_j)
      | inr all ↦
          let at : max i j ≡ i = omega arith in
          omega (arith, ap (price_at prices) at, not-falling prices rising j i all in_i)
    ]

price-min : (prices : List Price) (i j : ℕ) → IsRising prices → i < length prices → j < length prices
    → price_at prices (min i j) ≡ min (price_at prices i) (price_at prices j)
price-min prices i j rising in_i in_j =
    elim (cases_lt i j) [
      | inl less ↦
          let at : min i j ≡ i = omega arith in
          omega (arith, ap (price_at prices) at, rising i j less in_j)
      | inr all ↦
          let at : min i j ≡ j = omega arith in
          omega (arith, ap (price_at prices) at, not-falling prices rising j i all in_i)
    ]

greatest_upto-found : (prices : List Price) (p i : ℕ) → floor_of prices p ≡ Some i → greatest_upto prices p ≡ price_at prices i
unfolding greatest_upto
greatest_upto-found prices p i found = ap (λ (o : Option ℕ). option_map_or (price_at prices) o 0) found

greatest_upto-none : (prices : List Price) (p : ℕ) → floor_of prices p ≡ None → greatest_upto prices p ≡ 0
unfolding greatest_upto
greatest_upto-none prices p none = ap (λ (o : Option ℕ). option_map_or (price_at prices) o 0) none

least_from-found : (prices : List Price) (p i : ℕ) → ceil_of prices p ≡ Some i → least_from prices p ≡ price_at prices i
unfolding least_from
least_from-found prices p i found = ap (λ (o : Option ℕ). option_map_or (price_at prices) o (last_price prices)) found

least_from-none : (prices : List Price) (p : ℕ) → ceil_of prices p ≡ None → least_from prices p ≡ last_price prices
unfolding least_from
least_from-none prices p none = ap (λ (o : Option ℕ). option_map_or (price_at prices) o (last_price prices)) none

-- the last price stays
pub up_of-end : (prices : List Price) (ranges : List BandRow) (i : ℕ) → i + 1 ≡ length prices → up_of prices ranges (price_at prices i) ≡ price_at prices i
unfolding up_of
up_of-end prices ranges i end =
    let at : i ≡ length prices - 1 = omega arith in
    cond-true _ _ _ (eq-eqb _ _ (ap (price_at prices) at))

-- the next price above another
next-above : (prices : List Price) (i : ℕ) → IsRising prices → i + 1 < length prices → least_from prices (price_at prices i + 1) ≡ price_at prices (i + 1)
next-above prices i rising inside =
    let p = price_at prices i in
    least_from-found prices (p + 1) (i + 1) (
    ceil_of-between prices (p + 1) (i + 1) rising inside (omega (arith, rising i (i + 1) (omega arith) inside))
    (λ k less. omega (arith, not-falling prices rising k i (omega arith) (omega arith)))
    )

up_of-inside : (prices : List Price) (ranges : List BandRow) (i : ℕ) → IsRising prices → i + 1 < length prices
    → up_of prices ranges (price_at prices i) ≡ max (greatest_upto prices (price_at prices i + band_of ranges (price_at prices i))) (price_at prices (i + 1))
unfolding up_of
up_of-inside prices ranges i rising inside =
    let p = price_at prices i in
    let below_last : p ≢ last_price prices = λ same. absurd (omega (arith, same, rising i (length prices - 1) (omega arith) (omega arith))) in
    cond-false _ _ _ (ne_eqb p (last_price prices) below_last)
    ∙ ap (λ q. max (greatest_upto prices (p + band_of ranges p)) q) (next-above prices i rising inside)

-- the end of the range of a price, where the price stands at a position
pub range-end : (prices : List Price) (ranges : List BandRow) (i p r : ℕ) → p ≡ price_at prices i → r ≡ band_of ranges p
    → p + r ≡ price_at prices i + band_of ranges (price_at prices i)
range-end prices ranges i p r at is = ap (λ n. p + n) is ∙ ap (λ n. n + band_of ranges n) at

pub range-start : (prices : List Price) (ranges : List BandRow) (i p r : ℕ) → p ≡ price_at prices i → r ≡ band_of ranges p
    → p - r ≡ price_at prices i - band_of ranges (price_at prices i)
range-start prices ranges i p r at is = ap (λ n. p - n) is ∙ ap (λ n. n - band_of ranges n) at

-- one range up, by the position that is found
pub up_of-found : (prices : List Price) (ranges : List BandRow) (i far : ℕ) → IsRising prices → i + 1 < length prices → far < length prices
    → floor_of prices (price_at prices i + band_of ranges (price_at prices i)) ≡ Some far → price_at prices (max far (i + 1)) ≡ up_of prices ranges (price_at prices i)
up_of-found prices ranges i far rising inside within found =
    price-max prices far (i + 1) rising within inside
    ∙ sym (up_of-inside prices ranges i rising inside ∙ ap (λ q. max q (price_at prices (i + 1))) (greatest_upto-found prices _ far found))

pub up_of-next : (prices : List Price) (ranges : List BandRow) (i : ℕ) → IsRising prices → i + 1 < length prices
    → floor_of prices (price_at prices i + band_of ranges (price_at prices i)) ≡ None → price_at prices (i + 1) ≡ up_of prices ranges (price_at prices i)
up_of-next prices ranges i rising inside none =
    let least : max 0 (price_at prices (i + 1)) ≡ price_at prices (i + 1) = omega arith in
    sym (up_of-inside prices ranges i rising inside ∙ ap (λ q. max q (price_at prices (i + 1))) (greatest_upto-none prices _ none) ∙ least)

-- the first price stays
pub down_of-start : (prices : List Price) (ranges : List BandRow) → down_of prices ranges (price_at prices 0) ≡ price_at prices 0
unfolding down_of
down_of-start prices ranges =
    let p = price_at prices 0 in
    cond-true (eqb p p) p (min (least_from prices (p - band_of ranges p)) (greatest_upto prices (p - 1))) (eq-eqb p p refl)

-- the next price below another
next-below : (prices : List Price) (i : ℕ) → IsRising prices → 0 < i → i < length prices → greatest_upto prices (price_at prices i - 1) ≡ price_at prices (i - 1)
next-below prices i rising some inside =
    let p = price_at prices i in
    let less : price_at prices (i - 1) < p = rising (i - 1) i (omega arith) inside in
    let back : i - 1 + 1 ≡ i = omega arith in
    greatest_upto-found prices (p - 1) (i - 1) (
    floor_of-between prices (p - 1) (i - 1) rising (omega arith) (omega (arith, less)) (λ _. omega (arith, less, ap (price_at prices) back))
    )

down_of-inside : (prices : List Price) (ranges : List BandRow) (i : ℕ) → IsRising prices → 0 < i → i < length prices
    → down_of prices ranges (price_at prices i) ≡ min (least_from prices (price_at prices i - band_of ranges (price_at prices i))) (price_at prices (i - 1))
unfolding down_of
down_of-inside prices ranges i rising some inside =
    let p = price_at prices i in
    let above_first : p ≢ first_price prices = λ same. absurd (omega (arith, same, rising 0 i some inside)) in
    cond-false _ _ _ (ne_eqb p (first_price prices) above_first)
    ∙ ap (λ q. min (least_from prices (p - band_of ranges p)) q) (next-below prices i rising some inside)

-- one range down, by the position that is found
pub down_of-found : (prices : List Price) (ranges : List BandRow) (i far : ℕ) → IsRising prices → 0 < i → i < length prices → far < length prices
    → ceil_of prices (price_at prices i - band_of ranges (price_at prices i)) ≡ Some far → price_at prices (min far (i - 1)) ≡ down_of prices ranges (price_at prices i)
down_of-found prices ranges i far rising some inside within found =
    price-min prices far (i - 1) rising within (omega arith)
    ∙ sym (down_of-inside prices ranges i rising some inside ∙ ap (λ q. min q (price_at prices (i - 1))) (least_from-found prices _ far found))

pub down_of-next : (prices : List Price) (ranges : List BandRow) (i : ℕ) → IsRising prices → 0 < i → i < length prices
    → ceil_of prices (price_at prices i - band_of ranges (price_at prices i)) ≡ None → price_at prices (i - 1) ≡ down_of prices ranges (price_at prices i)
down_of-next prices ranges i rising some inside none =
    let order = not-falling prices rising (i - 1) (length prices - 1) (omega arith) (omega arith) in
    let least : min (last_price prices) (price_at prices (i - 1)) ≡ price_at prices (i - 1) = omega (arith, order) in
    sym (down_of-inside prices ranges i rising some inside ∙ ap (λ q. min q (price_at prices (i - 1))) (least_from-none prices _ none) ∙ least)
