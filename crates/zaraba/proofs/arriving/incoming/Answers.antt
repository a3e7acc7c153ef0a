use Rattle.mkt_base.specs.Book.{price_at}
use Rattle.tick_grid.specs.Rows.{band_of}
use Rattle.zaraba.proofs.DoneLemmas.{calm-after}
use Rattle.zaraba.proofs.ArrivingLemmas.{awaits-fresh, still-fresh}
use Rattle.zaraba.proofs.arriving.incoming.Goals as goal

pub walk-arrived-requires-clause-awaits : goal.walk-arrived-requires-clause-awaits
walk-arrived-requires-clause-awaits g c = awaits-fresh c.args.grid.now c.args.order c.args.book.now c.requires.order c.requires.size c.requires.calm

pub join-requires : goal.join-requires
join-requires g c = record {
  fresh = λ some.
      let walked = c.walk-arrived.ensures.walked.walked in
      still-fresh c.args.grid.now c.args.order c.args.book.now c.walk-arrived.new.book c.walk-arrived.result.left c.requires.order c.requires.size walked.awaits some walked.within;
}

pub returns-clause-calm : goal.returns-clause-calm
returns-clause-calm g c = λ done.
    calm-after g.W.Watch.took c.args.grid.now (band_of c.args.ranges.now) (price_at c.args.grid.now c.args.last) c.args.order c.args.book.now c.walk-arrived.new.book c.join.new.book
    c.walk-arrived.result.left (price_at c.args.grid.now c.walk-arrived.result.last) c.args.watch.now c.walk-arrived.new.watch c.walk-arrived.result.stop c.stands.ensures.book c.requires.size
    c.requires.calm c.walk-arrived.ensures.walked c.walk-arrived.ensures.stopped c.join.ensures.orders done
