use Rattle.std.proofs.Common.{sym, ap, subst, ◌∙◌, filter}
use Rattle.mkt_base.specs.Priority.{is_on_level}
use Rattle.mkt_base.specs.declared.order.Spot.TheVariants.{Market}
use Rattle.book_law.specs.BookView.{NamesFirst, orders}
use Rattle.itayose.specs.Sharing.{sharing_of}
use Rattle.itayose.proofs.SharingLemmas.{market-is, market-kept, no-market-shares}
use Rattle.itayose.proofs.sharing.first_market.Goals as goal

pub returns-then-group : goal.returns-then-group
returns-then-group c =
    let group = c.args.group.now in
    let b = c.args.book.now in
    subst (λ xs. NamesFirst b xs c.at_spot.result)
    (sym (ap (λ m. filter (is_on_level group.side Market) (sharing_of b group.side group.at m)) c.if-group.true ∙ market-is b group.side group.at))
    (market-kept b group.side c.best.result c.at_spot.result c.best.ensures c.at_spot.ensures)

pub returns-else-group : goal.returns-else-group
returns-else-group c =
    let group = c.args.group.now in
    let b = c.args.book.now in
    ap (λ m. filter (is_on_level group.side Market) (sharing_of b group.side group.at m)) c.if-group.false ∙ no-market-shares (orders b) group.side group.at
