use Rattle.std.proofs.Common.{ℕ, get_or, set, refl, ap, ◌∙◌}
use Rattle.itayose.specs.Sharing.{shares_by_number}
use Rattle.allotment.specs.declared.demand.Demand.{Demand}
use Rattle.itayose.proofs.RoundsLemmas.{shares-more}
use Rattle.itayose.proofs.rounds.by_participant.Goals as goal

pub loop-demand-init : goal.loop-demand-init
unfolding shares_by_number
loop-demand-init c = refl

pub loop-demand-preserved : goal.loop-demand-preserved
unfolding shares_by_number
loop-demand-preserved c =
    let none : Demand = record { participant = record { 0 = 0 }; first = 0; asked = 0; share = 0 } in
    let d : Demand = get_or c.args.demands.now c.loop-demand.demand-index none in
    ap (λ (n : ℕ). set c.loop-demand.shares n d.share) c.from.ensures
    ∙ shares-more c.args.demands.now c.loop-demand.demand-index none c.loop-demand.shares c.loop-demand-test.true (c.requires.once d.participant.0) (c.requires.participants c.loop-demand.demand-index none c.loop-demand-test.true) c.loop-demand.invariant
