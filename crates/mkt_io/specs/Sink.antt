-- What a sink holds after a text was to be written.
use Rattle.std.specs.Prelude.{ℕ, ◌≤◌, List, Option, Result, OnOk, OnErr, length, take}
use Rattle.std.specs.Io.KnownBytes.{Appends}
use Rattle.mkt_io.specs.Faults.{Rises}

-- known bytes grow by a front part of the text
abbrev pub AppendsPart : Option (List ℕ) → Option (List ℕ) → List ℕ → Type 0
AppendsPart old new text = (n : ℕ) × (n ≤ length text) × Appends old new (take n text)

-- a call that was to write a text: all of it is written, or the sink failed, a front part of it is written and the
-- count of faults rose
pub record Writes {O E : Type 0} (contents : O → Option (List ℕ)) (faults : O → ℕ) (old : O) (text : List ℕ) (new : O) (result : Result (Unit {0}) E) : Type 0 where
  pub all : OnOk result (Appends (contents old) (contents new) text)
  pub part : OnErr result (AppendsPart (contents old) (contents new) text)
  pub failed : OnErr result (Rises (faults old) (faults new))
  pub count : faults old ≤ faults new
