use Rattle.std.proofs.Common.{◌+◌, ◌∷◌, [], sym, ap, ◌∙◌, rules, refl, arith}
use Rattle.std.proofs.lemmas.List.{take_rest}
use Rattle.mkt_io.proofs.FirstLemmas.{none-passes}
use Rattle.mkt_io.proofs.WordLemmas.{words-first, words-last, words-nothing}
use Rattle.mkt_io.specs.Words.{is_blank}
use Rattle.mkt_io.proofs.words.cut_word.Goals as goal

pub returns-then-is_empty-clause-words : goal.returns-then-is_empty-clause-words
returns-then-is_empty-clause-words c = words-nothing c.args.line.now (search rules)

pub returns-then-at-line-clause-words : goal.returns-then-at-line-clause-words
returns-then-at-line-clause-words c =
    let line = c.args.line.now in
    let none = none-passes is_blank line (omega (arith, c.word_length-at.ensures.value, c.if-at-line.true)) in
    words-last line none (search rules) ∙ ap (λ more. line ∷ more) (sym (words-nothing [] refl))

pub returns-clause-words : goal.returns-clause-words
returns-clause-words c =
    let line = c.args.line.now in
    let at = c.word_length-at.result in
    rw (take_rest line (at + 1)) (words-first line at (sym c.word_length-at.ensures.value) (omega (arith, c.word_length-at.ensures.within, c.if-at-line.false)) c.requires.first)
