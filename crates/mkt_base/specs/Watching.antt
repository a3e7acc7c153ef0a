-- What a watch has taken in.
use Rattle.std.specs.Prelude.{◌≡◌, ℕ, ◌<◌, ◌≤◌, List, ◌++◌, Option, Some, IfSome}
use Rattle.mkt_base.specs.declared.output.Output.{Output}

-- What a watch promises of a run of outputs, by the list that it stands for and its count of faults before and after:
-- the count does not fall; where it is still 0 the list, where it is told, has these outputs more; and where it was not 0
-- nothing was added.
pub record Stands (before : Option (List Output)) (faults : ℕ) (outputs : List Output) (after : Option (List Output)) (faults' : ℕ) : Type 0 where
  pub count : faults ≤ faults'
  pub grew : faults' ≡ 0 → IfSome before (λ list. after ≡ Some (list ++ outputs))
  pub stayed : 0 < faults → after ≡ before

-- what a watch in memory has taken in, by its list and its count of faults before and after
pub record Kept (before : List Output) (faults : ℕ) (outputs : List Output) (after : List Output) (faults' : ℕ) : Type 0 where
  pub count : faults ≤ faults'
  pub grew : faults' ≡ 0 → after ≡ before ++ outputs
  pub stayed : 0 < faults → after ≡ before
