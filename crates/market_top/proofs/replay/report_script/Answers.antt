use Rattle.std.proofs.Common.{inl, inr, refl}
use Rattle.script_run.specs.Running.{run_of}
use Rattle.market_top.specs.Verdict.{no_memory}
use Rattle.market_top.proofs.ReplayLemmas.{IsReported-lent}
use Rattle.market_top.proofs.VerdictLemmas.{Delivered-told}
use Rattle.market_top.proofs.replay.report_script.Goals as goal

pub returns-in-Ok : goal.returns-in-Ok
returns-in-Ok g c =
    let rules = c.args.rules.now in
    let script = c.args.script.now in
    let issues = c.in-Ok.replayed.issues.items in
    let shows = c.in-Ok.replayed.shows.items in
    let run = run_of issues shows in
    let is = c.in-Ok.ensures in
    let told = c.report_run.ensures in
    let holds = c.replay_is_run.ensures rules script run c.requires.script is.printable is.replayed in (
      told.0,
      inr (run, record { ran = record { holds = holds; nodes = is.nodes; back = is.back }; order = is.replayed }, IsReported-lent c.args.extent rules _ issues _ shows told.0 c.deref.ensures.value c.deref-in-Ok.ensures.value told.1),
      told.2,
    )

pub returns-in-Err-Memory : goal.returns-in-Err-Memory
returns-in-Err-Memory g c = (no_memory, inl refl, Delivered-told _ _ _ _ no_memory _ _ _ _ refl c.tell.ensures)
