use Rattle.std.proofs.Common.{inl, inr, refl}
use Rattle.script_run.specs.Running.{run_of}
use Rattle.market_top.specs.Verdict.{no_memory}
use Rattle.market_top.specs.declared.extent.Extent.TheVariants.{Whole}
use Rattle.market_top.proofs.ReplayLemmas.{IsReported-lent}
use Rattle.market_top.proofs.VerdictLemmas.{Delivered-told}
use Rattle.market_top.proofs.gateways.play_script.Goals as goal

pub returns-in-Ok : goal.returns-in-Ok
returns-in-Ok g c =
    let issues = c.in-Ok.ran.issues.items in
    let shows = c.in-Ok.ran.shows.items in
    let run = run_of issues shows in
    let is = c.in-Ok.ensures in
    let told = c.report_run.ensures in (
      told.0,
      inr (run, record { holds = is.run; nodes = is.nodes; back = is.back }, IsReported-lent Whole c.args.rules.now _ issues _ shows told.0 c.deref.ensures.value c.deref-in-Ok.ensures.value told.1),
      told.2,
    )

pub returns-in-Err-Memory : goal.returns-in-Err-Memory
returns-in-Err-Memory g c = (no_memory, inl refl, Delivered-told _ _ _ _ no_memory _ _ _ _ refl c.tell.ensures)
