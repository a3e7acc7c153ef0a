-- What a caller needs who prints line after line.
use Rattle.std.proofs.Common.{◌≡◌, ℕ, ◌+◌, ◌<◌, List, [], ◌∷◌, ◌++◌, append_assoc, append-nil, Option, length, take, get_or, flat_map, sym, ap, ◌∙◌}
use Rattle.std.proofs.lemmas.List.{take_more}
use Rattle.std.proofs.lemmas.Grind.{flat_map-append}
use Rattle.mkt_io.specs.Printed.{PrintsLines, before_lines, same_lines}
use Rattle.mkt_io.specs.declared.printer.Printer.{Printer}

-- the texts of the first elements of a list, and of one more
texts-more : {A : Type 0} (text_of : A → List ℕ) (xs : List A) (i : ℕ) (d : A) → i < length xs → flat_map text_of (take i xs) ++ text_of (get_or xs i d) ≡ flat_map text_of (take (i + 1) xs)
texts-more text_of xs i d h =
    sym (append-nil (flat_map text_of (take i xs) ++ text_of (get_or xs i d))) ∙ append_assoc _ _ []
    ∙ sym (flat_map-append text_of (take i xs) (get_or xs i d ∷ [])) ∙ ap (flat_map text_of) (sym (take_more xs i d h))

-- the lines of the first elements of a list, and of one more
pub more_lines : {O : Type 0} {contents : O → Option (List ℕ)} {faults : O → ℕ} {p q r : Printer O} {A : Type 0} (text_of : A → List ℕ) (xs : List A) (i : ℕ) (d : A) → i < length xs
    → PrintsLines contents faults p q (flat_map text_of (take i xs)) → PrintsLines contents faults q r (text_of (get_or xs i d)) → PrintsLines contents faults p r (flat_map text_of (take (i + 1) xs))
more_lines text_of xs i d h first more = same_lines (texts-more text_of xs i d h) (before_lines first more)
