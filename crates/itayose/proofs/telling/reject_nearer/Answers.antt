use Rattle.std.proofs.Common.{◌≡◌, true, false, [], ◌∷◌, ◌++◌, ◌∙◌, ap, sym, append_assoc}
use Rattle.mkt_base.specs.Book.{price_at}
use Rattle.auction_law.specs.Attempt.{meets}
use Rattle.auction_law.proofs.ChoiceLemmas.{meets-of_sums}
use Rattle.book_law.specs.BookView.{orders}
use Rattle.itayose.proofs.TellingLemmas.{meets-next, next_of, none-nearer, reference-nearer, rejected-next, stopped-next, told-first, told-more, told-all, told-none}
use Rattle.itayose.proofs.WalkLemmas.{begins}
use Rattle.itayose.proofs.telling.reject_nearer.Goals as goal

pub returns-then-meets : goal.returns-then-meets
returns-then-meets g c =
    let grid = c.args.grid.now in
    let os = orders c.args.book.now in
    let r = price_at grid c.args.reference in
    let m : meets grid os r ≡ true = sym (c.meets.ensures ∙ meets-of_sums grid os r c.sums_there-sums.result c.sums_there-sums.ensures) ∙ c.if-meets.true in
    told-none g.W.Watch.took grid os _ c.args.watch.now (none-nearer grid os r _ (begins grid c.args.reference c.stands.ensures.rising c.requires.in_range) m)

pub loop-sums-init : goal.loop-sums-init
loop-sums-init g c =
    let grid = c.args.grid.now in
    let os = orders c.args.book.now in
    let r = price_at grid c.args.reference in
    let m : meets grid os r ≡ false = sym (c.meets.ensures ∙ meets-of_sums grid os r c.sums_there-sums.result c.sums_there-sums.ensures) ∙ c.if-meets.false in
    record {
      grid_is = c.new-rest.ensures.grid;
      orders_are = c.new-rest.ensures.orders;
      seen = r ∷ [];
      nearer = reference-nearer grid os r c.new-rest.result.left c.new-rest.ensures.left m;
      told = told-first g.W.Watch.took grid os r _ _ _ c.sums_there-sums.ensures c.rejected.ensures;
    }

pub returns-then-meets-2 : goal.returns-then-meets-2
returns-then-meets-2 g c =
    let grid = c.args.grid.now in
    let os = orders c.args.book.now in
    let inv = c.loop-sums.invariant in
    let n = next_of grid os c.loop-sums.rest c.in-Some.field-0-0 c.in-Some.sums _ inv.grid_is inv.orders_are c.in-Some.ensures.next in
    let m = meets-next grid os c.in-Some.field-0-0 c.in-Some.sums _ _ n c.meets-in-Some.result c.meets-in-Some.ensures ∙ c.if-meets-2.true in
    told-all g.W.Watch.took grid os _ _ _ _ inv (stopped-next grid os _ _ _ n.first m)

pub loop-sums-preserved : goal.loop-sums-preserved
loop-sums-preserved g c =
    let grid = c.args.grid.now in
    let os = orders c.args.book.now in
    let inv = c.loop-sums.invariant in
    let n = next_of grid os c.loop-sums.rest c.in-Some.field-0-0 c.in-Some.sums _ inv.grid_is inv.orders_are c.in-Some.ensures.next in
    let m = meets-next grid os c.in-Some.field-0-0 c.in-Some.sums _ _ n c.meets-in-Some.result c.meets-in-Some.ensures ∙ c.if-meets-2.false in
    record {
      grid_is = c.in-Some.ensures.grid ∙ inv.grid_is;
      orders_are = c.in-Some.ensures.orders ∙ inv.orders_are;
      seen = inv.seen ++ price_at grid c.in-Some.field-0-0 ∷ [];
      nearer = inv.nearer ∙ ap (λ xs. inv.seen ++ xs) (rejected-next grid os _ _ _ n.first m) ∙ sym (append_assoc inv.seen _ _);
      told = told-more g.W.Watch.took grid os inv.seen _ _ _ _ _ n.sums inv.told c.rejected-in-Some.ensures;
    }
