-- The lines that a gateway has left, before and after a stage.
use Rattle.std.proofs.Common.{◌≡◌, ℕ, ◌+◌, ◌<◌, ◌≤◌, Bool, true, false, cond, List, [], ◌∷◌, nat_lt, refl, arith}
use Rattle.std.proofs.lemmas.Bool.{ltb-true}
use Rattle.std.proofs.lemmas.List.Elements.{All-cons, All-head, All-nil, All-tail}
use Rattle.mkt_base.specs.declared.script.ScriptLine.{ScriptLine}
use Rattle.gateway.specs.Ran.{lines_after}
use Rattle.gateway_tests.specs.Left.{AreLeft}

abbrev IsLeft : ℕ → ℕ → ScriptLine → Type 0
IsLeft stage issues l = (stage ≤ l.stage) × (l.issue < issues)

pub left-after : (stage issues : ℕ) (lines : List ScriptLine) → AreLeft stage issues lines → AreLeft (stage + 1) issues (lines_after stage lines)
left-after stage issues [] left = All-nil (IsLeft (stage + 1) issues)
left-after stage issues (l ∷ lines) left =
    at (nat_lt stage l.stage) refl (All-head (IsLeft stage issues) l lines left).1 (left-after stage issues lines (All-tail (IsLeft stage issues) l lines left))
  where
    at : (b : Bool) → nat_lt stage l.stage ≡ b → l.issue < issues → AreLeft (stage + 1) issues (lines_after stage lines) → AreLeft (stage + 1) issues (cond b (l ∷ lines_after stage lines) (lines_after stage lines))
    at true e known rest = let above = ltb-true stage l.stage e in All-cons (IsLeft (stage + 1) issues) l (lines_after stage lines) (omega (arith, above), known) rest
    at false e known rest = rest
