use Rattle.std.proofs.Common.{◌≡◌, ◌∙◌, [], ◌∷◌, ◌++◌, None, ap, length, rules}
use Rattle.audit.specs.Told.{ended_with}
use Rattle.audit.proofs.FillLemmas.{filled-more}
use Rattle.audit.proofs.told.fill_up.Goals as goal

pub loop-alloc-preserved : goal.loop-alloc-preserved
loop-alloc-preserved c =
    let pushed : c.push.new.self.items ≡ c.loop-alloc.done.items ++ ended_with [] None ∷ [] =
    c.in_ok-push.ensures.items ∙ ap (λ j. c.loop-alloc.done.items ++ ended_with j None ∷ []) (c.new-in-loop-alloc.ensures ∙ c.new.ensures.items) in
    let size : c.len.result ≡ length c.loop-alloc.done.items = search (rules, c.len.ensures) in
    filled-more c.args.issues c.loop-alloc.done.items c.push.new.self.items c.len.result size c.loop-alloc-test.true pushed ∙ c.loop-alloc.invariant
