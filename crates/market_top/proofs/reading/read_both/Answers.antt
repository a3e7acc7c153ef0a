use Rattle.market_top.proofs.ReplayLemmas.{script-refused}
use Rattle.market_top.proofs.reading.read_both.Goals as goal

pub returns-in-Err-clause-told : goal.returns-in-Err-clause-told
returns-in-Err-clause-told g c =
    let read = c.in_ok-rules.ensures in
    let files = g.F.Shelf.files in
    let faults = g.F.Shelf.faults in
    let old = c.args.shelf.now in
    let before = c.rules_in.new.shelf in
    script-refused g.E.Sink.contents g.E.Sink.faults (files old) (files before) (faults old) (faults before) (faults c.script_in.new.shelf) c.args.rules.now c.args.script.now c.in_ok-rules.rules c.args.err.now
    c.rules_in.new.err c.script_in.new.err _ read.files read.count read.rules read.quiet c.in-Err.ensures.told
