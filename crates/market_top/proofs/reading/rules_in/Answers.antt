use Rattle.rules_file.specs.Faults.{Fails}
use Rattle.rules_file.specs.Rules.{rules_of}
use Rattle.market_top.specs.Check.{no_rules}
use Rattle.market_top.specs.Files.{Unruled}
use Rattle.market_top.proofs.ReplayLemmas.{no-rules-on}
use Rattle.market_top.proofs.VerdictLemmas.{no-rules-out}
use Rattle.market_top.proofs.reading.rules_in.Goals as goal

pub returns-clause-told : goal.returns-clause-told
returns-clause-told g c =
    let fault = c.in-Err-read_rules.fault in
    let files = g.F.Shelf.files c.args.shelf.now in
    let fails : Fails fault (rules_of c.in-Ok.bytes.items) = rw (← c.deref.ensures.value) c.in-Err-read_rules.ensures.exact in
    record {
      verdict = no_rules fault;
      is = no-rules-on files _ c.args.name.now Unruled c.in-Ok.bytes.items c.in-Ok.ensures.bytes fault fails;
      nothing = no-rules-out fault;
      told = c.tell_no_rules.ensures;
    }
