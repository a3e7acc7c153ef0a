use Rattle.std.proofs.Common.{position, ap, ◌∙◌}
use Rattle.std.specs.Str.{bytes_eq}
use Rattle.rules_file.proofs.FormLemmas.{position-map}
use Rattle.rules_file.proofs.names.Names.place_of.Goals as goal

pub returns-in-Some-clause-exact : goal.returns-in-Some-clause-exact
returns-in-Some-clause-exact c =
    let test = bytes_eq c.args.name.now in
    rw (← c.self.view_is) (c.in-Some.ensures.index ∙ position-map (λ key. key.items) test c.self.inside.index.keys ∙ ap (position test) c.self.invariant.same)

pub returns-in-None-clause-exact : goal.returns-in-None-clause-exact
returns-in-None-clause-exact c =
    let test = bytes_eq c.args.name.now in
    rw (← c.self.view_is) (c.in-None.ensures.index ∙ position-map (λ key. key.items) test c.self.inside.index.keys ∙ ap (position test) c.self.invariant.same)
