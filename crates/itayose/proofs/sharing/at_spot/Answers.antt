use Rattle.std.proofs.Common.{sym, subst, ◌∙◌}
use Rattle.book_law.specs.BookView.{NamesFirst}
use Rattle.itayose.proofs.SharingLemmas.{level-empty, level-first, level-none}
use Rattle.itayose.proofs.sharing.at_spot.Goals as goal

pub returns-in_err-handle : goal.returns-in_err-handle
returns-in_err-handle c = λ level others w own not.
    subst (NamesFirst c.args.book.now level) (sym c.from_residual.ensures) (level-none c.args.book.now c.args.spot level others c.args.found w own not c.in_err-handle.was)

pub returns-then-is_at : goal.returns-then-is_at
returns-then-is_at c = λ level others w own not.
    (c.order.result, c.order.ensures, level-first c.args.book.now c.args.spot level others c.args.found w own not c.in_ok-handle.handle c.order.result c.in_ok-handle.was c.order.ensures (sym c.is_at.ensures ∙ c.if-is_at.true))

pub returns-else-is_at : goal.returns-else-is_at
returns-else-is_at c = λ level others w own not.
    level-empty c.args.book.now c.args.spot level others c.args.found w own not c.in_ok-handle.handle c.order.result c.in_ok-handle.was c.order.ensures (sym c.is_at.ensures ∙ c.if-is_at.false)
