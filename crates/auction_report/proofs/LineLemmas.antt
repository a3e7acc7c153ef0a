-- The lines of one price more.
use Rattle.std.proofs.Common.{◌≡◌, ℕ, ◌+◌, ◌<◌, List, ◌++◌, drop, flat_map, get_or, length, append_assoc, sym, ap, ◌∙◌}
use Rattle.std.proofs.lemmas.List.{drop_more}
use Rattle.mkt_base.specs.Certificate.{rejected_line}
use Rattle.mkt_base.specs.declared.auction.Sums.{Sums}

pub line-next : (rows : List Sums) (i : ℕ) (d : Sums) (text whole : List ℕ) → i < length rows → text ++ flat_map rejected_line (drop i rows) ≡ whole
    → (text ++ rejected_line (get_or rows i d)) ++ flat_map rejected_line (drop (i + 1) rows) ≡ whole
line-next rows i d text whole within all =
    append_assoc text (rejected_line (get_or rows i d)) (flat_map rejected_line (drop (i + 1) rows))
    ∙ ap (λ more. text ++ flat_map rejected_line more) (sym (drop_more rows i d within)) ∙ all
