-- How far a file of a shelf is read.
use Rattle.std.specs.Prelude.{◌≡◌, ℕ, List, ◌++◌, Option, Some, IfSome, IsSomeAnd}

-- these bytes were read of the file of this name, and what is left of it stands behind them
abbrev pub ReadSoFar : Option (List ℕ → Option (List ℕ)) → List ℕ → Option (List ℕ) → List ℕ → Type 0
ReadSoFar files name left bytes = IfSome files (λ file. IsSomeAnd (file name) (λ all. (rest : List ℕ) × (left ≡ Some rest) × (all ≡ bytes ++ rest)))
