use Rattle.std.proofs.Common.{◌≡◌, ◌%◌, ◌/◌, ◌^◌, length-drop, sym, ◌∙◌, ap, arith}
use Rattle.std.proofs.Math.Nat.{div-le_self}
use Rattle.mkt_io.proofs.EndsLemmas.{ends-drop}
use Rattle.mkt_io.proofs.words.ends_behind.Goals as goal

pub returns : goal.returns
returns c some =
    let line = c.args.line.now in
    let at = c.args.at in
    let known = c.requires.ends (omega (arith, some, div-le_self c.args.ends (2 ^ (at % 64)))) in
    let same : at % 64 ≡ at = omega (arith, known.0, c.requires.within) in
    (omega (arith, known.0, length-drop at line), ap (λ n. c.args.ends / 2 ^ n) same ∙ ap (λ n. n / 2 ^ at) known.1 ∙ sym (ends-drop line at c.requires.within))
