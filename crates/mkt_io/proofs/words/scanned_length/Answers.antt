use Rattle.std.proofs.Common.{sym, rules, tests, arith}
use Rattle.std.proofs.lemmas.Iterator.{YieldsList-from_slice}
use Rattle.std.proofs.lemmas.Iterator.Search.{position_from_yields_List}
use Rattle.mkt_io.specs.Words.{is_blank}
use Rattle.mkt_io.proofs.FirstLemmas.{found-at, none-found}
use Rattle.mkt_io.proofs.words.scanned_length.Goals as goal

pub returns-in-Some : goal.returns-in-Some
returns-in-Some c =
    let line = c.args.line.now in
    let found = position_from_yields_List is_blank _ _ c.position.result c.position.ensures.ran (YieldsList-from_slice line cc) (λ x b q k. search (rules, tests)) in
    let here = found-at is_blank line c.position.result c.in-Some.at found c.in-Some.is in
    record { value = sym here.0; within = omega (arith, here.1) }

pub returns-in-None : goal.returns-in-None
returns-in-None c =
    let line = c.args.line.now in
    let found = position_from_yields_List is_blank _ _ c.position.result c.position.ensures.ran (YieldsList-from_slice line cc) (λ x b q k. search (rules, tests)) in
    record { value = none-found is_blank line c.position.result found c.in-None.is; within = omega arith }
