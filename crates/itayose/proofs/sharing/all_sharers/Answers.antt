use Rattle.itayose.proofs.SharingLemmas.{all-left, limit-first}
use Rattle.itayose.proofs.sharing.all_sharers.Goals as goal

pub returns : goal.returns
returns c =
    let group = c.args.group.now in
    all-left c.args.book.now c.stands.ensures.book group.side group.at c.requires.position group.markets (record { market = c.first_market.result; limit = c.at_spot.result; left = group.left })
    c.first_market.ensures
    (limit-first c.args.book.now c.stands.ensures.book group.side group.at c.requires.position c.behind_shares-behind.result c.at_spot.result group.ahead c.requires.ahead c.behind_shares-behind.ensures c.at_spot.ensures)
    c.requires.left
