-- Known bytes that grow in several steps, and counts of faults that rise in one of them.
use Rattle.std.proofs.Common.{◌≡◌, ℕ, ◌+◌, ◌≤◌, inl, inr, List, ◌++◌, Option, Some, None, take, drop, sym, ap, ◌∙◌, append_assoc, arith}
use Rattle.std.proofs.Math.Seq.{take-add}
use Rattle.std.specs.Io.KnownBytes.{Appends}
use Rattle.mkt_io.specs.Faults.{Rises}

-- bytes are appended, and then others
pub Appends-then : (a b c : Option (List ℕ)) (xs ys : List ℕ) → Appends a b xs → Appends b c ys → Appends a c (xs ++ ys)
Appends-then None b c xs ys f g = tt
Appends-then (Some a) None c xs ys f g = absurd f
Appends-then (Some a) (Some b) None xs ys f g = absurd g
Appends-then (Some a) (Some b) (Some c) xs ys f g = g ∙ ap (λ z. z ++ ys) f ∙ append_assoc a xs ys

-- the same bytes under another name
pub Appends-same : (a b : Option (List ℕ)) (xs ys : List ℕ) → xs ≡ ys → Appends a b xs → Appends a b ys
Appends-same a b xs ys e f = rw (← e) f

-- n bytes of a text are appended, and then the first m of those behind them
pub Appends-more : (a b c : Option (List ℕ)) (n m : ℕ) (text : List ℕ) → Appends a b (take n text) → Appends b c (take m (drop n text)) → Appends a c (take (n + m) text)
Appends-more a b c n m text f g = Appends-same a c _ _ (sym (take-add n m text)) (Appends-then a b c _ _ f g)

-- a count that rose after it had not fallen
pub Rises-after : (a b c : ℕ) → a ≤ b → Rises b c → Rises a c
Rises-after a b c h (inl r) = inl (omega arith)
Rises-after a b c h (inr r) = inr r
