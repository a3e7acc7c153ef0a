use Rattle.std.proofs.Common.{sym, ◌∙◌}
use Rattle.market_top.proofs.StatusLemmas.{status-done, status-halted}
use Rattle.market_top.proofs.reporting.done_status.Goals as goal

pub returns-then-is_any_halted : goal.returns-then-is_any_halted
returns-then-is_any_halted c rules are = status-halted rules _ are (sym c.if-is_any_halted.true ∙ c.is_any_halted.ensures)

pub returns-else-is_any_halted : goal.returns-else-is_any_halted
returns-else-is_any_halted c rules are = status-done rules _ are (sym c.if-is_any_halted.false ∙ c.is_any_halted.ensures)
