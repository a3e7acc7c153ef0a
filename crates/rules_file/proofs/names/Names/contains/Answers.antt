use Rattle.std.proofs.Common.{ap, ◌∙◌}
use Rattle.std.specs.List.{list_any}
use Rattle.std.specs.Str.{bytes_eq}
use Rattle.rules_file.proofs.FormLemmas.{list_any-map}
use Rattle.rules_file.proofs.names.Names.contains.Goals as goal

pub returns : goal.returns
returns c =
    let test = bytes_eq c.args.name.now in
    rw (← c.self.view_is) (c.contains.ensures ∙ list_any-map (λ key. key.items) test c.self.inside.index.keys ∙ ap (list_any test) c.self.invariant.same)
