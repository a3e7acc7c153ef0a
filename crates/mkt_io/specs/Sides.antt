-- How the word of a side is told at once.
use Rattle.std.specs.Prelude.{ℕ, Bool, if◌then◌else◌}

-- the first three bytes and the last one of `sell`, or of `buy`, the first the lowest
abbrev pub side_key : Bool → ℕ
side_key sells = if sells then 1819043187 else 2038003042
