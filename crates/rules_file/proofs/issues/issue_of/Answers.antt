use Rattle.std.proofs.Common.{◌≡◌, true, false, rules}
use Rattle.std.proofs.lemmas.Result.{IfOk-weaker}
use Rattle.std.specs.List.{list_any}
use Rattle.std.specs.Str.{bytes_eq}
use Rattle.rules_file.specs.Forms.{is_name}
use Rattle.rules_file.specs.Issues.{IsNewCode}
use Rattle.rules_file.proofs.issues.issue_of.Goals as goal

pub returns-clause-code : goal.returns-clause-code
returns-clause-code c =
    let before = c.args.before.now in
    let name : is_name c.in_ok-code.code ≡ true = search rules in
    let fresh : list_any (bytes_eq c.in_ok-fresh.fresh) before ≡ false = search rules in
    let first : c.in_ok-fresh.fresh ≡ c.in_ok-code.code = search rules in
    let second : c.in_ok-placed.placed ≡ c.in_ok-fresh.fresh = search rules in
    IfOk-weaker c.with_grid.result (λ issue. issue.0 ≡ c.in_ok-placed.placed) (λ issue. IsNewCode before issue.0)
    (λ issue same. record { name = rw (same, second, first) name; fresh = rw (same, second) fresh }) c.with_grid.ensures.same
