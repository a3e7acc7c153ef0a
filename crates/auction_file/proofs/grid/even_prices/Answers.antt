use Rattle.std.proofs.Common.{◌≡◌, ℕ, ◌+◌, ◌*◌, List, [], ◌∷◌, ◌++◌, map, sym, ap, ◌∙◌, arith}
use Rattle.std.specs.List.{range_with_len}
use Rattle.std.proofs.lemmas.List.FromFn.{map-range_with_len_more}
use Rattle.mkt_base.specs.declared.units.Price.{Price}
use Rattle.auction_file.specs.EvenGrid.{grid_prices}
use Rattle.auction_file.proofs.grid.even_prices.Goals as goal

abbrev price_of : ℕ → ℕ → ℕ → Price
price_of low tick i = record { 0 = low + i * tick }

pub loop-i-preserved : goal.loop-i-preserved
loop-i-preserved c =
    let i = c.loop-i.i in
    let more = map-range_with_len_more (price_of c.args.low c.args.tick) 0 i i (omega arith) in
    c.in_ok-push.ensures.items ∙ ap (λ (xs : List Price). xs ++ price_of c.args.low c.args.tick i ∷ []) c.loop-i.invariant ∙ sym more

pub returns : goal.returns
unfolding grid_prices
returns c =
    let all : c.loop-i.i ≡ c.args.count = omega arith in
    c.loop-i.invariant ∙ ap (λ (n : ℕ). map (price_of c.args.low c.args.tick) (range_with_len 0 n)) all
