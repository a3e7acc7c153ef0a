-- The laws of lower crates on which those of an issue rest.
use Rattle.allotment.specs.Laws.{DemandsInOrder}
use Rattle.itayose.specs.Laws.{CalmAfterwards}
use Rattle.zaraba.specs.Laws.{BoughtIsSold, DoneStaysCalm, LastIsNear, NoneFillsMore, TradesStand}

-- the laws of auctions by time, of arrivals and of allotments
pub record LowerLaws : Type 0 where
  pub calm_afterwards : CalmAfterwards
  pub done_stays_calm : DoneStaysCalm
  pub trades_stand : TradesStand
  pub last_is_near : LastIsNear
  pub bought_is_sold : BoughtIsSold
  pub none_fills_more : NoneFillsMore
  pub demands_in_order : DemandsInOrder
