-- The file of a name, by its place.
use Rattle.std.proofs.Common.{◌≡◌, ℕ, ◌<◌, Bool, true, false, cond, ltb, List, [], ◌∷◌, Some, None, length, slice_get, option_map, string_bytes, IfSome, zero, suc, refl, ap, ◌∙◌, arith}
use Rattle.std.specs.List.{position_or_len}
use Rattle.std.specs.Str.{bytes_eq}
use Rattle.std.proofs.lemmas.Bool.Decides.{nat_tests}
use Rattle.std.proofs.lemmas.List.Folds.{find_at}
use Rattle.std.specs.declared.string.String.{String}
use Rattle.std.specs.declared.vec.Vec.{Vec}
use Rattle.std.specs.declared.alloc.Global.{Global}
use Rattle.mkt_io.specs.Memory.{file_of, bytes_of}

-- a file has the name that is looked for
abbrev pub is_named : List ℕ → String Global × Vec ℕ Global → Bool
is_named name file = bytes_eq (string_bytes file.0) name

bytes-at : (files : List (String Global × Vec ℕ Global)) (place : ℕ) → place < length files → option_map (λ file. file.1.items) (slice_get files place) ≡ Some (bytes_of (slice_get files place))
bytes-at [] place h = absurd (omega (arith, h))
bytes-at (file ∷ files) zero h = refl
bytes-at (file ∷ files) (suc place) h = bytes-at files place (omega (arith, h))

file-when : (b : Bool) (files : List (String Global × Vec ℕ Global)) (name : List ℕ) → ltb (position_or_len (is_named name) files) (length files) ≡ b
    → IfSome (cond b (Some (position_or_len (is_named name) files)) None) (λ place. file_of files name ≡ Some (bytes_of (slice_get files place)))
unfolding file_of
file-when true files name h =
    let inside : position_or_len (is_named name) files < length files = grind (arith, nat_tests, h) in
    ap (option_map (λ file. file.1.items)) (find_at (is_named name) files) ∙ bytes-at files (position_or_len (is_named name) files) inside
file-when false files name h = tt

-- the place that `position` answers is that of the file
pub file-at : (files : List (String Global × Vec ℕ Global)) (name : List ℕ)
    → IfSome (cond (ltb (position_or_len (is_named name) files) (length files)) (Some (position_or_len (is_named name) files)) None) (λ place. file_of files name ≡ Some (bytes_of (slice_get files place)))
file-at files name = file-when (ltb (position_or_len (is_named name) files) (length files)) files name refl
