-- When a count of faults rose.
use Rattle.std.specs.Prelude.{ℕ, ◌-◌, ◌^◌, ◌<◌, ◌≤◌, ◌⊎◌}

-- the count is greater than it was, or stands at the last value of a u64
abbrev pub Rises : ℕ → ℕ → Type 0
Rises old new = (old < new) ⊎ (2 ^ 64 - 1 ≤ new)
