-- What a rack tells of a node that was given back.
use Rattle.std.specs.Prelude.{ℕ, List}

-- the records that the node held, how often it had failed, and the most records that it had held
pub record Given : Type 0 where
  pub contents : List (List ℕ)
  pub faults : ℕ
  pub most : ℕ
