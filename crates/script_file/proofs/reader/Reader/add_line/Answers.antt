use Rattle.std.proofs.Common.{ap, arith}
use Rattle.script_file.specs.Faults.{at_line}
use Rattle.script_file.specs.Script.{event_count}
use Rattle.script_file.specs.declared.script.Script.{Script}
use Rattle.script_file.proofs.ReaderLemmas.{with_said-fits, with_said-many}
use Rattle.script_file.proofs.reader.Reader.add_line.Goals as goal

pub returns-then-self-events_of-gt-EVENTS_LIMIT : goal.returns-then-self-events_of-gt-EVENTS_LIMIT
returns-then-self-events_of-gt-EVENTS_LIMIT c =
    let same = ap (λ (s : Script). event_count s.lines) c.self.view_is in
    rw c.at_line.ensures
    (ap (at_line c.args.number)
    (with_said-many c.args.rules.now c.args.self.now c.args.number c.args.gateway c.args.issues c.args.act.now c.numbers_of-first.result.0 c.numbers_of-first.result.1
    c.numbers_of-first.ensures.numbers (omega (arith, same, c.self.invariant.count, c.events_of.ensures))))

pub returns-in-Ok : goal.returns-in-Ok
returns-in-Ok c =
    let same = ap (λ (s : Script). event_count s.lines) c.self.view_is in
    rw c.in-Ok.ensures
    (ap (at_line c.args.number)
    (with_said-fits c.args.rules.now c.args.self.now c.args.number c.args.gateway c.args.issues c.args.act.now c.numbers_of-first.result.0 c.numbers_of-first.result.1
    c.numbers_of-first.ensures.numbers (omega (arith, same, c.self.invariant.count, c.events_of.ensures))))
