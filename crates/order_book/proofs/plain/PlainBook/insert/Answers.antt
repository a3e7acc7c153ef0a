use Rattle.std.proofs.Common.{◌≡◌, ◌∷◌, [], ◌++◌, sym, subst, arith}
use Rattle.std.proofs.lemmas.Grind.{common_steps}
use Rattle.book_law.specs.BookView.{IsBookView}
use Rattle.order_book.proofs.CallLemmas.{added}
use Rattle.order_book.proofs.ViewLemmas.{inserted-stands}
use Rattle.order_book.proofs.plain.PlainBook.insert.Goals as goal

pushed : (c : goal.After-at) → c.push.new.self.items ≡ c.self.inside.orders.items ++ c.args.order ∷ []
pushed c = grind (arith, common_steps)

pub returns : goal.returns
returns c =
    let fields = c.self.inside in
    added fields.prices fields.capacity fields.orders.items c.args.self.now c.self.view_is c.args.order c.at.result c.push.new.self.items c.at.ensures (pushed c) c.requires

pub invariant_of-self : goal.invariant_of-self
invariant_of-self c =
    let new = returns c in
    record {
      book = subst IsBookView (sym new.slots) (inserted-stands c.args.self.now c.args.order c.at.result (subst IsBookView c.self.view_is c.self.invariant.book) c.requires new.fresh);
      room = omega (arith, c.self.invariant.room, c.push.ensures.capacity);
    }
