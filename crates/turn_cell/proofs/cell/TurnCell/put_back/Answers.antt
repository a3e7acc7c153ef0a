use Rattle.std.proofs.Common.{rules, refl, ap, ◌∙◌, subst, ◌≡◌, List, ℕ, ◌∷◌, length}
use Rattle.std.specs.Prelude.{Option, Some}
use Rattle.atomic_table.specs.Table.{rest}
use Rattle.turn_cell.specs.Marks.{marks_by, entries_in}
use Rattle.turn_cell.specs.Views.{counted}
use Rattle.turn_cell.specs.Steps.{Sat, held_marks}
use Rattle.turn_cell.proofs.Turning.{serves_next}
use Rattle.turn_cell.proofs.Counting.{counts_added}
use Rattle.turn_cell.proofs.cell.TurnCell.put_back.Goals as goal

pub fetch_add-requires : goal.fetch_add-requires
fetch_add-requires g c =
    let a = c.requires.added in let v = c.args.seat.now.me.0 in (
      search rules,
      search rules,
      counts_added _ _ _ _ _ _ _ v c.args.value c.args.added (length (entries_in v.made)) a.0
          (c.exchange-hole.ensures.3 ∙ ap (λ (h : List (ℕ × Option g.row.V.Denot)). (v, (0, Some c.args.value) ∷ rest h)) c.requires.turn.1)
          c.requires.turn.0 a.1 a.2 refl a.3 c.requires.short,
    )

pub fetch_add-served-requires : goal.fetch_add-served-requires
fetch_add-served-requires g c =
    let v = c.args.seat.now.me.0 in let marks = marks_by g.V.TurnValue.entries g.V.TurnValue.halt in (
      search rules,
      search rules,
      serves_next _ _ _ _ _ _ _ (counted v (marks c.args.value)) c.args.value
          (subst (λ (m : Sat g.row.V.Denot g.row.V-Fixed.Denot). c.fetch_add.new.seat.me ≡ (counted m.0 (held_marks marks g.V.TurnValue.fixed m.1), m.1))
          (c.exchange-hole.ensures.3 ∙ ap (λ (h : List (ℕ × Option g.row.V.Denot)). (v, (0, Some c.args.value) ∷ rest h)) c.requires.turn.1) c.fetch_add.ensures.2.0)
          c.requires.turn.0 refl c.requires.fixed,
    )
