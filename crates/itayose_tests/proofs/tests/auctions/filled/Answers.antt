use Rattle.std.proofs.Common.{◌≡◌, ◌%◌, ◌<◌}
use Rattle.std.proofs.lemmas.List.Elements.{All-map}
use Rattle.itayose_tests.proofs.tests.auctions.filled.Goals as goal

pub returns : goal.returns
returns c = record {
  prices = c.loop-rest.invariant.prices;
  participants = All-map (λ o. o.participant.0 < 64) (λ s. s.order) c.loop-rest.book.slots c.loop-rest.invariant.participants;
  units = All-map (λ o. o.left % 100 ≡ 0) (λ s. s.order) c.loop-rest.book.slots c.loop-rest.invariant.units;
}
