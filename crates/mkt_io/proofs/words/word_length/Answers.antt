use Rattle.std.proofs.Common.{not, ap, ◌∙◌, arith}
use lib.Count.{count_trailing_zeros}
use Rattle.std.proofs.lemmas.List.Sums.{prefix_len-le-length}
use Rattle.mkt_io.specs.Words.{is_blank}
use Rattle.mkt_io.proofs.EndsLemmas.{ends-first}
use Rattle.mkt_io.proofs.words.word_length.Goals as goal

pub returns-clause-value : goal.returns-clause-value
returns-clause-value c =
    let known = c.requires (omega arith) in
    ap (count_trailing_zeros 64) known.1 ∙ ends-first c.args.line.now known.0

pub returns-clause-within : goal.returns-clause-within
returns-clause-within c =
    let known = c.requires (omega arith) in
    omega (arith, ap (count_trailing_zeros 64) known.1 ∙ ends-first c.args.line.now known.0, prefix_len-le-length (λ b. not (is_blank b)) c.args.line.now)
