use Rattle.std.proofs.Common.{◌≡◌, ◌<◌, ◌%◌, sym, ◌∙◌, rules, arith}
use Rattle.std.proofs.lemmas.List.{take_rest}
use Rattle.mkt_io.proofs.EndsLemmas.{ends-even}
use Rattle.mkt_io.proofs.WordLemmas.{words-behind}
use Rattle.mkt_io.proofs.words.without_blanks.Goals as goal

pub loop-rest-preserved : goal.loop-rest-preserved
loop-rest-preserved c = record {
  words = words-behind c.loop-rest.rest.now c.in-len1-up.len_at_least (sym c.is_blank.ensures ∙ c.if-not-is_blank.false) ∙ c.loop-rest.invariant.words;
  ends = rw (take_rest c.loop-rest.rest.now 1) c.ends_behind-left.ensures;
}

pub returns-then-is_at_word-clause-first : goal.returns-then-is_at_word-clause-first
returns-then-is_at_word-clause-first c =
    let at : (0 < c.args.ends) × (c.args.ends % 2 ≡ 0) = search rules in
    ends-even c.args.line.now (omega (arith, (c.requires at.0).1, at.1))
