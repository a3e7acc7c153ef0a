use Rattle.std.proofs.Common.{rules}
use Rattle.text_match.proofs.MatchLemmas.{taken-more, taken-odd}
use Rattle.text_match.proofs.matcher.MatcherSink.write.Goals as goal

pub returns-then-n-eq0-clause-appended : goal.returns-then-n-eq0-clause-appended
returns-then-n-eq0-clause-appended c = taken-odd c.args.self.now.text.now c.args.piece.now c.args.self.now.at c.args.self.now.odd (search rules) (search rules)

pub returns-clause-appended : goal.returns-clause-appended
returns-clause-appended c =
    taken-more c.args.self.now.text.now c.args.piece.now c.args.self.now.at c.common-n.result c.args.self.now.odd (search rules) (rw (← c.split_at.ensures.back) c.common-n.ensures.same)
