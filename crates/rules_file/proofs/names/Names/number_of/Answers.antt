use Rattle.std.proofs.Common.{◌≡◌, ◌<◌, length, get_or, [], subst, sym, rules}
use Rattle.rules_file.specs.Keys.{AreKept}
use Rattle.rules_file.proofs.NameLemmas.{position-at}
use Rattle.rules_file.proofs.names.Names.number_of.Goals as goal

pub returns-then-is_at-clause-exact : goal.returns-then-is_at-clause-exact
returns-then-is_at-clause-exact c =
    let names = c.args.self.now in
    let here : (c.of-guess.result < length names) × (get_or names c.of-guess.result [] ≡ c.args.name.now) = search rules in
    let kept = subst AreKept c.self.view_is c.self.invariant.kept in
    sym (position-at names c.args.name.now c.of-guess.result kept.distinct here.0 here.1)
