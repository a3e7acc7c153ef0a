use Rattle.std.proofs.Common.{◌≡◌, true, false, Option, Some, None, MatchOption, sym, ◌∙◌}
use Rattle.mkt_base.specs.declared.auction.Sums.{Sums}
use Rattle.auction_law.proofs.TradedLemmas.{traded-is, traded-none}
use Rattle.auction_law.proofs.choice.chosen_within.Goals as goal

at_none : (o : Option Sums) (P : Type 0) (Q : Sums → Type 0) → o ≡ None → P → MatchOption o P Q
at_none None P Q e p = p
at_none (Some s) P Q e p = absurd (cc)

pub returns-in_err-sums : goal.returns-in_err-sums
returns-in_err-sums c = at_none _ _ _ c.from_residual.ensures (traded-none c.args.grid.now c.args.orders.now c.args.reference.0 c.args.lo.0 c.args.hi.0 c.in_err-sums.ensures)

pub returns-then-not-is_within : goal.returns-then-not-is_within
returns-then-not-is_within c = traded-is _ _ _ _ _ _ false c.in_ok-sums.ensures.0 (sym c.if-not-is_within.true ∙ c.is_within.ensures)

pub returns : goal.returns
returns c = (traded-is _ _ _ _ _ _ true c.in_ok-sums.ensures.0 (sym c.if-not-is_within.false ∙ c.is_within.ensures), c.in_ok-sums.ensures.0, c.in_ok-sums.ensures.1)
