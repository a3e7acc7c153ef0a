use Rattle.std.proofs.Common.{Err, ap, ◌∙◌, inl, inr, refl}
use Rattle.script_run.specs.Running.{run_of}
use Rattle.market_top.specs.Reporting.{cut_report, reported}
use Rattle.market_top.proofs.ReplayLemmas.{Delivered-cut, Delivered-not_reported, Delivered-reported, at-Err, at-Ok}
use Rattle.market_top.proofs.reporting.report_run.Goals as goal

pub returns-in-Ok : goal.returns-in-Ok
returns-in-Ok g c =
    let rules = c.args.rules.now in
    let run = run_of c.args.issues.now c.args.shows.now in
    let told = c.write_run.ensures in (
      reported c.args.extent rules run,
      inl refl,
      Delivered-reported _ _ _ _ c.args.extent rules run _ _ told.count _ _ (c.done_status.ensures rules c.requires.run.ended) (at-Ok _ _ _ c.in-Ok.is told.all),
    )

pub returns-in-Err-Write : goal.returns-in-Err-Write
returns-in-Err-Write g c =
    let rules = c.args.rules.now in
    let run = run_of c.args.issues.now c.args.shows.now in
    let told = c.write_run.ensures in (
      reported c.args.extent rules run,
      inl refl,
      Delivered-not_reported _ _ _ _ c.args.extent rules run _ _ told.count _ (told.cause _ (c.in-Err-Write.is ∙ ap Err c.in-Err-Write.field-0-is)) (at-Err _ _ _ c.in-Err-Write.is told.part),
    )

pub returns-in-Err-Memory : goal.returns-in-Err-Memory
returns-in-Err-Memory g c =
    let rules = c.args.rules.now in
    let run = run_of c.args.issues.now c.args.shows.now in
    let told = c.write_run.ensures in
    let part = at-Err _ _ _ c.in-Err-Memory.is told.part in (
      cut_report c.args.extent rules run part.0,
      inr (part.0, refl),
      Delivered-cut _ _ _ _ c.args.extent rules run _ _ told.count _ _ _ part.0 part.2 c.tell.ensures,
    )
