use Rattle.std.proofs.Common.{◌≡◌, ℕ, ◌-◌, false, length, min, sym, ap, subst, ◌∙◌, arith}
use Rattle.mkt_base.specs.Book.{price_at}
use Rattle.mkt_base.specs.declared.auction.Sums.{Sums}
use Rattle.auction_law.specs.Attempt.{IsAttempt, is_traded}
use Rattle.auction_law.proofs.TradedLemmas.{traded-none}
use Rattle.level_auction.proofs.AnswerLemmas.{whole-traded}
use Rattle.level_auction.proofs.answer.attempt.Goals as goal

pub returns-in-Some : goal.returns-in-Some
returns-in-Some c =
    let grid = c.args.grid.now in
    let os = c.args.levels.now.orders in
    let found = c.in-Some.ensures in
    (whole-traded grid os (price_at grid c.args.reference) c.in-Some.sums.price.0 c.requires.can.rising found.0, found.0, found.1, c.min-volume.ensures ∙ ap (λ (s : Sums). min s.buys s.sells) found.1)

pub returns-in-None : goal.returns-in-None
returns-in-None c =
    let grid = c.args.grid.now in
    let r : ℕ = price_at grid c.args.reference in
    let low : ℕ = price_at grid 0 in
    let high : ℕ = price_at grid (length grid - 1) in
    let same = c.as_slice.ensures.orders in
    let none : is_traded grid c.as_slice.result.now r low high ≡ false = subst (λ os. is_traded grid os r low high ≡ false) (sym same) (traded-none grid c.args.levels.now.orders r low high c.in-None.ensures) in
    subst (λ os. IsAttempt grid os r low high c.without_trade.result) same (c.without_trade.ensures c.args.reference (omega arith) (omega (arith, c.requires.in_range)) none)
