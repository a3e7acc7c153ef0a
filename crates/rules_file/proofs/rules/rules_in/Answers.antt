use Rattle.std.proofs.Common.{refl}
use Rattle.std.proofs.lemmas.Result.{err_from_is_err_and}
use Rattle.rules_file.specs.Rules.{rules_in}
use Rattle.rules_file.proofs.KeyLemmas.{Fails-as}
use Rattle.rules_file.proofs.rules.rules_in.Goals as goal

pub returns-in_err-rounds-clause-exact : goal.returns-in_err-rounds-clause-exact
unfolding rules_in
returns-in_err-rounds-clause-exact c =
    let p = err_from_is_err_and c.from_residual-in_err-rounds.result c.from_residual-in_err-rounds.ensures.1 in
    rw (p.1, p.2) (Fails-as _ _ _ (λ fault said. rw (c.in_ok-special_ms.ensures.exact, c.in_ok-sequential_ms.ensures.exact, c.in_ok-ticks.ensures.exact, c.in_ok-limits.ensures.exact, c.in_ok-ranges.ensures.exact, c.in_ok-sessions.ensures.exact, said) refl) c.in_err-rounds.ensures.exact)

pub returns-in_err-participants-clause-exact : goal.returns-in_err-participants-clause-exact
unfolding rules_in
returns-in_err-participants-clause-exact c =
    let p = err_from_is_err_and c.from_residual-in_err-participants.result c.from_residual-in_err-participants.ensures.1 in
    rw (p.1, p.2) (Fails-as _ _ _ (λ fault said. rw (c.in_ok-special_ms.ensures.exact, c.in_ok-sequential_ms.ensures.exact, c.in_ok-ticks.ensures.exact, c.in_ok-limits.ensures.exact, c.in_ok-ranges.ensures.exact, c.in_ok-sessions.ensures.exact, c.in_ok-rounds.ensures.exact, said) refl) c.in_err-participants.ensures.exact)

pub returns-in_err-gateways-clause-exact : goal.returns-in_err-gateways-clause-exact
unfolding rules_in
returns-in_err-gateways-clause-exact c =
    let p = err_from_is_err_and c.from_residual-in_err-gateways.result c.from_residual-in_err-gateways.ensures.1 in
    rw (p.1, p.2) (Fails-as _ _ _ (λ fault said. rw (c.in_ok-special_ms.ensures.exact, c.in_ok-sequential_ms.ensures.exact, c.in_ok-ticks.ensures.exact, c.in_ok-limits.ensures.exact, c.in_ok-ranges.ensures.exact, c.in_ok-sessions.ensures.exact, c.in_ok-rounds.ensures.exact, c.in_ok-participants.ensures.exact, said) refl) c.in_err-gateways.ensures.exact)

pub returns-in_err-issues-clause-exact : goal.returns-in_err-issues-clause-exact
unfolding rules_in
returns-in_err-issues-clause-exact c =
    let p = err_from_is_err_and c.from_residual-in_err-issues.result c.from_residual-in_err-issues.ensures.1 in
    rw (p.1, p.2) (Fails-as _ _ _ (λ fault said.
    let refused = rw (c.as_slice.ensures, c.as_slice-2.ensures) at said in
    rw (c.in_ok-special_ms.ensures.exact, c.in_ok-sequential_ms.ensures.exact, c.in_ok-ticks.ensures.exact, c.in_ok-limits.ensures.exact, c.in_ok-ranges.ensures.exact, c.in_ok-sessions.ensures.exact, c.in_ok-rounds.ensures.exact, c.in_ok-participants.ensures.exact, c.in_ok-gateways.ensures.exact, refused) refl) c.in_err-issues.ensures.exact)

pub returns-clause-exact : goal.returns-clause-exact
unfolding rules_in
returns-clause-exact c =
    let issues = rw (c.as_slice.ensures, c.as_slice-2.ensures) at (c.in_ok-issues.ensures.exact) in
    rw (c.in_ok-special_ms.ensures.exact, c.in_ok-sequential_ms.ensures.exact, c.in_ok-ticks.ensures.exact, c.in_ok-limits.ensures.exact, c.in_ok-ranges.ensures.exact, c.in_ok-sessions.ensures.exact, c.in_ok-rounds.ensures.exact, c.in_ok-participants.ensures.exact, c.in_ok-gateways.ensures.exact, issues) refl
