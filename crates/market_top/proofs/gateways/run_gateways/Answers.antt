use Rattle.mkt_io.specs.Faults.{Rises}
use Rattle.market_top.specs.ScriptRun.{IsPlayed}
use Rattle.market_top.proofs.ReplayLemmas.{delivered-since, files-on, files-refused}
use Rattle.market_top.proofs.VerdictLemmas.{Answered-by, Delivered-told}
use Rattle.market_top.proofs.gateways.run_gateways.Goals as goal

pub returns-in-Ok : goal.returns-in-Ok
returns-in-Ok g c =
    let read = c.in-Ok.ensures in
    let told = c.play_script.ensures in
    Answered-by _ _ _ _ _ _ _ _ _ _ _ _ _ _ _ told.0 _
    (files-on _ _ c.args.rules.now c.args.script.now (IsPlayed _ _) c.in-Ok.said.rules c.in-Ok.said.script told.0 read.rules read.script told.1)
    (delivered-since _ _ _ _ told.0 _ _ _ _ _ _ read.quiet told.2) read.count

pub returns-in-Err : goal.returns-in-Err
returns-in-Err g c =
    let read = c.in-Err.ensures in
    let files = g.F.Shelf.files c.args.shelf.now in
    let failed = Rises (g.F.Shelf.faults c.args.shelf.now) (g.F.Shelf.faults c.read_both.new.shelf) in
    Answered-by _ _ _ _ _ _ _ _ _ _ _ _ _ _ _ read.told.verdict _
    (files-refused files failed c.args.rules.now c.args.script.now (IsPlayed (g.R.Rack.is_out c.args.rack.now) (g.R.Rack.given c.args.rack.now)) read.told.verdict read.told.is)
    (Delivered-told _ _ _ _ read.told.verdict _ _ _ _ read.told.nothing read.told.told) read.count
