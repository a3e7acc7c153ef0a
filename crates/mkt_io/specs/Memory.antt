-- What a shelf in memory tells of its files.
use Rattle.std.specs.Prelude.{ℕ, List, [], Option, Some, None, drop, slice_get, option_map, string_bytes}
use Rattle.std.specs.List.{find}
use Rattle.std.specs.Str.{bytes_eq}
use Rattle.std.specs.declared.string.String.{String}
use Rattle.std.specs.declared.vec.Vec.{Vec}
use Rattle.std.specs.declared.alloc.Global.{Global}

-- the bytes of the first file of this name
unfoldable pub file_of : List (String Global × Vec ℕ Global) → List ℕ → Option (List ℕ)
file_of files name = option_map (λ file. file.1.items) (find (λ file. bytes_eq (string_bytes file.0) name) files)

-- the bytes of the file at this place, or none
abbrev pub bytes_of : Option (String Global × Vec ℕ Global) → List ℕ
bytes_of None = []
bytes_of (Some file) = file.1.items

-- what is left of the file at the chosen place, behind the bytes that were read
abbrev pub left_of : List (String Global × Vec ℕ Global) → Option ℕ → ℕ → List ℕ
left_of files None at = []
left_of files (Some place) at = drop at (bytes_of (slice_get files place))
