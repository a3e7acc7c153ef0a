use Rattle.std.proofs.Common.{◌≤◌, refl, sym, subst, arith}
use Rattle.order_book.specs.Fields.{AreFields, book_of}
use Rattle.order_book.proofs.CountedLemmas.{above-fits, bought-within, from-fits, sells-fits, sums-are}
use Rattle.order_book.proofs.book.Book.sums_counted.Goals as goal

pub overflow_sub-above : goal.overflow_sub-above
unfolding AreFields book_of
overflow_sub-above g c =
    let f = c.self.inside in
    subst (λ n. c.upto-bought.result ≤ n) (sym c.limit_buys.ensures)
    (bought-within f.prices f.capacity f.buckets f.held f.levels f.owners f.depths c.self.invariant c.args.self.now c.self.view_is c.args.i c.upto-bought.result c.upto-sold.result c.requires c.upto-bought.ensures.exact c.upto-sold.ensures.exact)

pub overflow_add-above : goal.overflow_add-above
unfolding AreFields book_of
overflow_add-above g c =
    let f = c.self.inside in
    omega (arith, c.at-market_buys.ensures, c.limit_buys.ensures, above-fits f.prices f.capacity f.buckets f.held f.levels f.owners f.depths c.self.invariant c.args.self.now c.self.view_is c.args.i c.upto-bought.result c.upto-sold.result c.requires c.upto-bought.ensures.exact c.upto-sold.ensures.exact)

pub overflow_add-sells : goal.overflow_add-sells
unfolding AreFields book_of
overflow_add-sells g c =
    let f = c.self.inside in
    omega (arith, c.at-market_sells.ensures, sells-fits f.prices f.capacity f.buckets f.held f.levels f.owners f.depths c.self.invariant c.args.self.now c.self.view_is c.args.i c.upto-bought.result c.upto-sold.result c.requires c.upto-bought.ensures.exact c.upto-sold.ensures.exact)

pub overflow_add-result : goal.overflow_add-result
unfolding AreFields book_of
overflow_add-result g c =
    let f = c.self.inside in
    omega (arith, c.at-market_buys.ensures, c.limit_buys.ensures, from-fits f.prices f.capacity f.buckets f.held f.levels f.owners f.depths c.self.invariant c.args.self.now c.self.view_is c.args.i c.upto-bought.result c.upto-sold.result c.requires c.upto-bought.ensures.exact c.upto-sold.ensures.exact c.at.result _ c.at.ensures refl)

pub returns-clause-exact : goal.returns-clause-exact
unfolding AreFields book_of
returns-clause-exact g c =
    let f = c.self.inside in
    rw (c.at-market_buys.ensures, c.limit_buys.ensures, c.at-market_sells.ensures) (sums-are f.prices f.capacity f.buckets f.held f.levels f.owners f.depths c.self.invariant c.args.self.now c.self.view_is c.args.i c.upto-bought.result c.upto-sold.result c.requires c.upto-bought.ensures.exact c.upto-sold.ensures.exact c.at.result c.at-2.result c.at.ensures c.at-2.ensures)
