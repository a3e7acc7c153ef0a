use Rattle.std.proofs.Common.{◌≡◌, ◌++◌, [], ◌∷◌, ◌<◌, length, map, sym, ap, ◌∙◌, rules}
use Rattle.std.proofs.Common.{false}
use Rattle.std.specs.List.{list_any}
use Rattle.std.specs.Str.{bytes_eq}
use Rattle.rules_file.proofs.FormLemmas.{insert_key-fresh}
use Rattle.rules_file.proofs.NameLemmas.{AreKept-push}
use Rattle.rules_file.proofs.names.Names.with.Goals as goal

pub invariant_of-result : goal.invariant_of-result
invariant_of-result c =
    let name : c.in_ok-key.key.items ≡ c.args.name.now = search rules in
    let names : c.self.inside.texts.items ≡ c.args.self = c.self.view_is in
    let fresh : list_any (bytes_eq c.in_ok-key.key.items) c.self.inside.texts.items ≡ false = rw (name, names) c.requires.fresh in
    let keys = c.in_ok-insert.ensures.keys in
    let pushed : c.push.new.self.items ≡ c.self.inside.texts.items ++ c.args.name.now ∷ [] = search rules in
    let all : map (λ key. key.items) c.insert.new.self.keys ≡ c.push.new.self.items =
    ap (map (λ key. key.items)) keys ∙ insert_key-fresh c.self.inside.index.keys c.in_ok-key.key c.self.inside.texts.items c.self.invariant.same fresh
    ∙ ap (λ n. c.self.inside.texts.items ++ n ∷ []) name ∙ sym pushed in
    let few : length c.self.inside.texts.items < 64 = rw names c.requires.few in
    let new_one : list_any (bytes_eq c.args.name.now) c.self.inside.texts.items ≡ false = rw names c.requires.fresh in
    record { same = all; kept = rw pushed (AreKept-push c.self.inside.texts.items c.args.name.now c.self.invariant.kept few new_one) }
