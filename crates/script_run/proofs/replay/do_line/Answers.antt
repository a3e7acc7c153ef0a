use Rattle.std.proofs.Common.{[], ◌∷◌, ◌++◌, get_or, slice_get, slice_set, sym, ap, subst, ◌∙◌}
use Rattle.mkt_base.specs.declared.script.Act.{Act}
use Rattle.mkt_base.specs.declared.script.ShowLine.{ShowLine}
use Rattle.issue_journal.specs.Issue.{IssueNow}
use Rattle.script_run.specs.Entering.{WasEntered}
use Rattle.script_run.specs.Running.{MayDo, WasDone, WasRead, read_of}
use Rattle.script_run.proofs.LineLemmas.{at-place, one-there}
use Rattle.script_run.proofs.replay.do_line.Goals as goal

pub enter-requires-clause-event : goal.enter-requires-clause-event
enter-requires-clause-event g c =
    let of = c.args.of.now in
    let i = get_or c.args.issues.now c.from-at.result c.index-issues-at.result in
    (subst (λ (act : Act). MayDo of.gateway act i) c.in-Do.is (c.requires.may i (at-place c.args.issues.now c.from-at.result of.line.issue c.index-issues-at.result c.from-at.ensures c.requires.line))).0

pub enter-requires-clause-place : goal.enter-requires-clause-place
enter-requires-clause-place g c =
    let of = c.args.of.now in
    let i = get_or c.args.issues.now c.from-at.result c.index-issues-at.result in
    (subst (λ (act : Act). MayDo of.gateway act i) c.in-Do.is (c.requires.may i (at-place c.args.issues.now c.from-at.result of.line.issue c.index-issues-at.result c.from-at.ensures c.requires.line))).1

pub returns-in-Do-clause-issues : goal.returns-in-Do-clause-issues
returns-in-Do-clause-issues g c =
    let of = c.args.of.now in
    let old = c.args.issues.now in
    let i = get_or old c.from-at.result c.index-issues-at.result in
    let there = at-place old c.from-at.result of.line.issue c.index-issues-at.result c.from-at.ensures c.requires.line in
    subst (λ (act : Act). WasDone of act old (slice_set old c.from-at.result c.enter.new.issue)) (sym c.in-Do.is) (
      c.enter.new.issue,
      ap (λ n. slice_set old n c.enter.new.issue) c.from-at.ensures,
      λ x is. subst (λ (y : IssueNow). WasEntered of.gateway c.in-Do.event y c.enter.new.issue) (one-there (slice_get old of.line.issue) i x there is) c.enter.ensures,
    )

pub returns-in-Show-clause-shows : goal.returns-in-Show-clause-shows
returns-in-Show-clause-shows g c =
    let of = c.args.of.now in
    let old = c.args.issues.now in
    let i = get_or old c.from-at.result c.index-issues-at-in-Show.result in
    let there = at-place old c.from-at.result of.line.issue c.index-issues-at-in-Show.result c.from-at.ensures c.requires.line in
    subst (λ (act : Act). WasRead of act old c.args.shows.now.items c.push_reserved.new.self.items) (sym c.in-Show.is)
    (λ x is. c.push_reserved.ensures.items
    ∙ ap (λ (s : ShowLine). c.args.shows.now.items ++ s ∷ []) (c.read.ensures ∙ ap (read_of of) (one-there (slice_get old of.line.issue) i x there is)))
