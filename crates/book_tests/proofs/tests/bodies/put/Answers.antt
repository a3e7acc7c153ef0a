use Rattle.book_tests.proofs.OpenLemmas.{growing-fresh, growing-more}
use Rattle.book_tests.proofs.tests.bodies.put.Goals as goal

pub insert-requires : goal.insert-requires
insert-requires c =
    growing-fresh c.args.next c.args.order c.args.book.now c.requires.growing c.requires.few c.requires.place c.requires.own c.requires.some c.requires.limit c.requires.spot

pub returns : goal.returns
returns c = growing-more c.args.next c.insert.result c.args.order c.args.book.now c.insert.new.self c.requires.growing c.requires.place c.requires.own c.insert.ensures
