use Rattle.std.proofs.Common.{sym, arith}
use Rattle.std.proofs.lemmas.Result.{MatchResult-weaker}
use Rattle.script_file.proofs.ReaderLemmas.{line_said-err, line_said-ok, words_said-few}
use Rattle.script_file.proofs.ScriptLemmas.{IsScriptBefore-said}
use Rattle.script_file.proofs.reader.Reader.read_line.Goals as goal

pub add-requires-clause-stages : goal.add-requires-clause-stages
add-requires-clause-stages c =
    let few = words_said-few c.args.rules.now c.args.self.now c.args.number c.args.text.now c.in-Ok.said (sym c.in-Ok.ensures.exact) in
    omega (arith, few, c.requires.before.ended)

pub returns-in-Ok-clause-exact : goal.returns-in-Ok-clause-exact
returns-in-Ok-clause-exact c = rw (line_said-ok c.args.rules.now c.args.self.now c.args.number c.args.text.now c.in-Ok.said (sym c.in-Ok.ensures.exact)) c.add.ensures

pub returns-in-Ok-clause-sound : goal.returns-in-Ok-clause-sound
returns-in-Ok-clause-sound c =
    MatchResult-weaker c.add.result c.add.ensures
    (λ _ e. IsScriptBefore-said c.args.rules.now c.args.self.now c.add.new.self c.args.number c.in-Ok.said e c.in-Ok.ensures.known c.requires.before)
    (λ _ _. tt)

pub returns-in-Err-clause-exact : goal.returns-in-Err-clause-exact
returns-in-Err-clause-exact c = rw c.at_line.ensures (line_said-err c.args.rules.now c.args.self.now c.args.number c.args.text.now c.in-Err.fault (sym c.in-Err.ensures.exact))
