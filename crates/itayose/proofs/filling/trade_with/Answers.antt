use Rattle.std.proofs.Common.{◌≡◌, ◌++◌, [], ◌∷◌, Some, ◌∙◌, subst, arith}
use Rattle.std.specs.List.{slice_get}
use Rattle.std.proofs.lemmas.Bool.Decides.{nat_tests}
use Rattle.book_law.specs.BookView.{less, side_of}
use Rattle.mkt_base.specs.declared.output.Output.TheVariants.{Traded}
use Rattle.itayose.specs.Fills.{opposite}
use Rattle.itayose.proofs.FillingLemmas.{facing-handle, first-some, named-apart, other-handle, some-least, traded-filled, traded-side}
use Rattle.book_law.proofs.FrontLemmas.{first-of}
use Rattle.itayose.proofs.filling.trade_with.Goals as goal

pub take-requires-clause-some : goal.take-requires-clause-some
take-requires-clause-some g c =
    let side = c.opposite.result in
    let left = first-some c.args.book.now c.stands.ensures.book side c.first_of-first.result.1 c.first_of-first.ensures.first in
    let parts = some-least c.first_of-first.result.1.left c.args.most c.min-qty.result c.min-qty.ensures left c.requires.some in
    omega (arith, parts.0)

pub take-requires-2-clause-some : goal.take-requires-2-clause-some
take-requires-2-clause-some g c =
    let left = first-some c.args.book.now c.stands.ensures.book c.opposite.result c.first_of-first.result.1 c.first_of-first.ensures.first in
    let parts = some-least c.first_of-first.result.1.left c.args.most c.min-qty.result c.min-qty.ensures left c.requires.some in
    omega (arith, parts.0)

pub returns-clause-some : goal.returns-clause-some
returns-clause-some g c =
    let left = first-some c.args.book.now c.stands.ensures.book c.opposite.result c.first_of-first.result.1 c.first_of-first.ensures.first in
    (some-least c.first_of-first.result.1.left c.args.most c.min-qty.result c.min-qty.ensures left c.requires.some).0

pub take-requires-2-clause-names : goal.take-requires-2-clause-names
take-requires-2-clause-names g c =
    let first = subst (λ s. slice_get (side_of c.args.book.now s) 0 ≡ Some c.first_of-first.result.1) c.opposite.ensures c.first_of-first.ensures.first in
    c.take.ensures.others c.first_of-first.result.0 c.first_of-first.result.1
    (named-apart c.args.book.now c.stands.ensures.book c.args.handle c.first_of-first.result.0 c.args.order.now c.first_of-first.result.1 c.requires.names c.first_of-first.ensures.names first)
    c.first_of-first.ensures.names

pub returns-clause-filled : goal.returns-clause-filled
returns-clause-filled g c =
    let first = subst (λ s. slice_get (side_of c.args.book.now s) 0 ≡ Some c.first_of-first.result.1) c.opposite.ensures c.first_of-first.ensures.first in
    let w = first-of (side_of c.args.book.now (opposite c.args.order.now.side)) c.first_of-first.result.1 first in
    traded-filled c.args.price.0 c.min-qty.result c.args.most c.args.handle c.args.order.now c.first_of-first.result.1 w.0 c.args.book.now c.take.new.book c.take-2.new.book c.stands.ensures.book
    c.requires.names w.1 c.min-qty.ensures c.requires.some c.take.ensures.orders c.take-2.ensures.orders c.take.ensures.prices c.take-2.ensures.prices
    g.W.Watch.took c.args.watch.now c.trade.new.self (c.take-2.ensures.capacity ∙ c.take.ensures.capacity)
    (λ start outputs h. subst (λ t. g.W.Watch.took start (outputs ++ Traded t ∷ []) c.trade.new.self) c.trade_between.ensures (c.trade.ensures start outputs h))

pub returns-clause-side : goal.returns-clause-side
returns-clause-side g c =
    let first = subst (λ s. slice_get (side_of c.args.book.now s) 0 ≡ Some c.first_of-first.result.1) c.opposite.ensures c.first_of-first.ensures.first in
    let w = first-of (side_of c.args.book.now (opposite c.args.order.now.side)) c.first_of-first.result.1 first in
    traded-side c.args.price.0 c.min-qty.result c.args.most c.args.handle c.args.order.now c.first_of-first.result.1 w.0 c.args.book.now c.take.new.book c.take-2.new.book c.stands.ensures.book
    c.requires.names w.1 c.min-qty.ensures c.requires.some c.take.ensures.orders c.take-2.ensures.orders c.take.ensures.prices c.take-2.ensures.prices

pub returns-clause-own : goal.returns-clause-own
returns-clause-own g c = λ some.
    let first = subst (λ s. slice_get (side_of c.args.book.now s) 0 ≡ Some c.first_of-first.result.1) c.opposite.ensures c.first_of-first.ensures.first in
    let apart = named-apart c.args.book.now c.stands.ensures.book c.args.handle c.first_of-first.result.0 c.args.order.now c.first_of-first.result.1 c.requires.names c.first_of-first.ensures.names first in
    c.take-2.ensures.others c.args.handle (less c.min-qty.result c.args.order.now) (grind (arith, nat_tests, apart)) (c.take.ensures.own some)

pub returns-clause-others : goal.returns-clause-others
returns-clause-others g c = λ k o named own apart.
    let first = subst (λ s. slice_get (side_of c.args.book.now s) 0 ≡ Some c.first_of-first.result.1) c.opposite.ensures c.first_of-first.ensures.first in
    let w = first-of (side_of c.args.book.now (opposite c.args.order.now.side)) c.first_of-first.result.1 first in
    c.take-2.ensures.others k o
    (facing-handle c.args.book.now c.first_of-first.result.0 k c.args.order.now c.first_of-first.result.1 o w.0 w.1 c.first_of-first.ensures.names named own)
    (c.take.ensures.others k o (other-handle c.args.book.now c.args.handle k c.args.order.now o c.requires.names named apart) named)
