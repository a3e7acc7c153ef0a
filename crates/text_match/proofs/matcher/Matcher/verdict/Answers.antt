use Rattle.std.proofs.Common.{◌+◌, ◌∙◌, ap, length, rules}
use Rattle.text_match.specs.Lines.{lines_of}
use Rattle.text_match.proofs.MatchLemmas.{matched-all, matched-not}
use Rattle.text_match.proofs.matcher.Matcher.verdict.Goals as goal
use Rattle.text_match.proofs.matcher.Matcher.verdict.Goals.{else-is_none-via-then-is_none+else-self, else-is_none-via-else-is_none}

pub returns-then-self : goal.returns-then-self
returns-then-self c text other handed =
    let m = c.args.self.now in
    matched-all text other m.text.now m.at m.faults m.odd handed (search rules) (search rules) (search rules)

pub returns : goal.returns
returns c text other handed =
    let m = c.args.self.now in
    let told = matched-not text other m.text.now m.at m.faults m.odd handed (search rules) (search rules) (search rules)
    (λ none. elim c.else-is_none.branch [
      | else-is_none-via-then-is_none+else-self w ↦ search (rules, w.if-self.false)
      | else-is_none-via-else-is_none w ↦ search (rules, none)
    ]) in
    (told.0, (_, told.1, ap (λ n. n + 1) (c.count_lines-line.ensures.count ∙ ap (λ xs. length (lines_of xs)) c.split_at.ensures.front)))
