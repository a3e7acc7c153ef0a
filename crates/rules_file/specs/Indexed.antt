-- Names by number, as they are kept.
use Rattle.std.specs.Prelude.{◌≡◌, ℕ, List, Vec, map}
use Rattle.std.specs.declared.alloc.Global.{Global}
use Rattle.rules_file.specs.Keys.{AreKept}

-- the keys of the index are the texts, at most 64 and no two of them the same
pub record IsIndexed (keys : List (Vec ℕ Global)) (texts : List (List ℕ)) : Type 0 where
  pub same : map (λ key. key.items) keys ≡ texts
  pub kept : AreKept texts
