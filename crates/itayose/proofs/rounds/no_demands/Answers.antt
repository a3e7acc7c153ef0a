use Rattle.std.proofs.Common.{[], get_or, set, ap, sym, ◌∙◌, arith}
use Rattle.std.proofs.lemmas.List.{length-set}
use Rattle.std.proofs.lemmas.List.Edits.{fill_by_more}
use Rattle.std.proofs.lemmas.List.FromFn.{fill_by_all}
use Rattle.allotment.specs.declared.demand.Demand.{Demand}
use Rattle.itayose.specs.Fills.{demand_of, demands_by_number}
use Rattle.itayose.proofs.RoundsLemmas.{demand-none}
use Rattle.itayose.proofs.rounds.no_demands.Goals as goal

pub loop-i-preserved : goal.loop-i-preserved
loop-i-preserved c = (
  length-set c.loop-i.table c.loop-i.i _ ∙ c.loop-i.invariant.0,
  λ k d h.
      ap (λ (x : Demand). get_or (set c.loop-i.table c.loop-i.i x) k d) (sym (demand-none c.loop-i.i))
      ∙ fill_by_more (demand_of []) c.loop-i.table c.loop-i.i d (omega (arith, c.loop-i.invariant.0, c.loop-i-test.true)) (λ j l. c.loop-i.invariant.1 j d l) k h,
)

pub returns : goal.returns
unfolding demands_by_number
returns c = fill_by_all (demand_of []) c.loop-i.table 64 (demand_of [] 0) c.loop-i.invariant.0 (λ k h. c.loop-i.invariant.1 k (demand_of [] 0) (omega (arith, h, c.loop-i-test.false)))
