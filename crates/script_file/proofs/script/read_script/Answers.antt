use Rattle.std.proofs.Common.{◌≡◌, ℕ, ◌+◌, refl, sym, subst, arith}
use Rattle.std.proofs.lemmas.Result.{err_from_is_err_and}
use Rattle.script_file.proofs.ReaderLemmas.{Fails_at, fault_at, line_said-checked_words, script_at, script_at_end}
use Rattle.script_file.proofs.ScriptLemmas.{IsScriptBefore-none}
use Rattle.script_file.specs.Reader.{IsScriptBefore}
use Rattle.script_file.proofs.script.read_script.Goals as goal

pub each_line-init : goal.each_line-init
each_line-init c = record { rest = rw (c.in-Ok.ensures, c.new-lines.ensures) refl; sound = IsScriptBefore-none c.args.rules.now c.in-Ok.reader (c.new-lines.result.given + 1) c.in-Ok.ensures (omega arith) }

pub returns-in-TooLong-clause-exact : goal.returns-in-TooLong-clause-exact
returns-in-TooLong-clause-exact c =
    let next = c.in-TooLong.ensures in
    rw c.at_line.ensures
    (fault_at c.args.rules.now c.args.bytes.now c.each_line.reader (c.each_line.lines.given + 1) c.each_line.lines.left c.each_line.invariant.rest
    c.in-TooLong.number next.0 _ next.1 (omega (arith, next.2)) _
    (line_said-checked_words c.args.rules.now c.each_line.reader c.in-TooLong.number next.0 _ (c.too_long.ensures next.0 next.4)))

pub read_line-requires-clause-before : goal.read_line-requires-clause-before
read_line-requires-clause-before c =
    subst (λ (n : ℕ). IsScriptBefore c.args.rules.now c.each_line.reader n) (sym c.in-Line.ensures.1) c.each_line.invariant.sound

pub each_line-preserved : goal.each_line-preserved
each_line-preserved c =
    let next = c.in-Line.ensures in
    let given : c.in-Line.number + 1 ≡ c.next.new.self.given + 1 = omega (arith, next.2) in
    record {
      rest = rw (← given)
          (script_at c.args.rules.now c.args.bytes.now c.each_line.reader (c.each_line.lines.given + 1) c.each_line.lines.left c.each_line.invariant.rest
          c.in-Line.number c.in-Line.text.now _ next.0 (omega (arith, next.1)) c.read_line.new.self c.in_ok-read_line-in-Line.ensures.exact);
      sound = subst (λ (n : ℕ). IsScriptBefore c.args.rules.now c.read_line.new.self n) given c.in_ok-read_line-in-Line.ensures.sound;
    }

pub returns-in_err-read_line-in-Line-clause-exact : goal.returns-in_err-read_line-in-Line-clause-exact
returns-in_err-read_line-in-Line-clause-exact c =
    let next = c.in-Line.ensures in
    let p = err_from_is_err_and c.from_residual.result c.from_residual.ensures.1 in
    rw (p.1, p.2)
    (Fails_at c.args.rules.now c.args.bytes.now c.each_line.reader (c.each_line.lines.given + 1) c.each_line.lines.left c.each_line.invariant.rest
    c.in-Line.number c.in-Line.text.now _ next.0 (omega (arith, next.1)) _ c.in_err-read_line-in-Line.ensures.exact)

pub returns-clause-exact : goal.returns-clause-exact
returns-clause-exact c =
    rw c.into_script.ensures
    (script_at_end c.args.rules.now c.args.bytes.now c.each_line.reader (c.each_line.lines.given + 1) c.each_line.lines.left c.each_line.invariant.rest c.in-End.ensures.0)

pub returns-clause-sound : goal.returns-clause-sound
returns-clause-sound c = rw c.into_script.ensures c.each_line.invariant.sound.sound
