use Rattle.std.proofs.Common.{true, false, option_map, refl, sym, ◌∙◌}
use Rattle.auction_law.specs.Attempt.{crosses}
use Rattle.auction_law.proofs.CalmLemmas.{calm-by_best}
use Rattle.auction_law.proofs.attempt.is_calm.Goals as goal

pub returns-then-all_limited : goal.returns-then-all_limited
returns-then-all_limited c =
    sym (calm-by_best c.args.grid.now c.args.orders.now c.args.bid c.args.ask true c.crosses.result c.requires.bid c.requires.ask (sym c.if-all_limited.true ∙ c.all_limited.ensures) c.crosses.ensures)

pub returns-else-all_limited : goal.returns-else-all_limited
returns-else-all_limited c =
    c.if-all_limited.false
    ∙ sym (calm-by_best c.args.grid.now c.args.orders.now c.args.bid c.args.ask false (crosses (option_map (λ p. p.0) c.args.bid) (option_map (λ p. p.0) c.args.ask)) c.requires.bid c.requires.ask
    (sym c.if-all_limited.false ∙ c.all_limited.ensures) refl)
