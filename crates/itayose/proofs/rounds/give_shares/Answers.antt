use Rattle.std.proofs.Common.{◌≡◌, ◌<◌, ◌%◌, filter, ltb, sym, ap, subst, ◌∙◌, arith}
use Rattle.std.proofs.lemmas.List.Elements.{recursion_from_All}
use Rattle.book_law.specs.BookView.{orders}
use Rattle.itayose.specs.Sharing.{CanShare, is_sharing, sharing_of}
use Rattle.itayose.proofs.AllotLemmas.{can-share}
use Rattle.itayose.proofs.SharingLemmas.{filter-keeps, sharing-by_place}
use Rattle.itayose.proofs.rounds.give_shares.Goals as goal

pub share_among-requires-clause-demands : goal.share_among-requires-clause-demands
share_among-requires-clause-demands g c =
    let b = c.args.book.now in
    let group = c.args.group.now in
    let os = sharing_of b group.side group.at group.markets in
    subst (CanShare c.args.unit c.args.given) (sym (c.keep_asking-count.ensures.front ∙ ap (filter (λ d. ltb 0 d.asked)) c.demands-table.ensures))
    (can-share os c.args.unit c.args.given (sharing-by_place b c.stands.ensures.book group.side group.at group.markets)
    (filter-keeps (λ o. o.participant.0 < 64) (is_sharing group.side group.at group.markets) (orders b) (recursion_from_All (λ o. o.participant.0 < 64) (orders b) c.requires.participants))
    (filter-keeps (λ o. o.left % c.args.unit ≡ 0) (is_sharing group.side group.at group.markets) (orders b) (recursion_from_All (λ o. o.left % c.args.unit ≡ 0) (orders b) c.requires.units))
    c.requires.in_units (omega (arith, c.requires.within, c.requires.left)))
