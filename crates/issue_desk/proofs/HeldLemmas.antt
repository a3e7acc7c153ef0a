-- The pass that a desk holds between its calls.
use Rattle.std.proofs.Common.{◌≡◌, Option, Some, refl, sym, ap, subst, ◌∙◌}
use Rattle.atomic_table.specs.Seated.{TableId}
use Rattle.mkt_base.specs.declared.journal.Stopped.{Stopped}
use Rattle.turn_cell.specs.Passes.{Known}
use Rattle.issue_journal.specs.Issue.{Fixed}
use Rattle.issue_desk.specs.Desk.{DeskNow, HoldsPass, IsDesk, desk_of, held}

module _ (cell : TableId) (pass : Option (Known Fixed)) (stop : Option Stopped) (p : Known Fixed) (is : pass ≡ Some p) where
  -- what contracts see of it is that pass
  pub held-is : (d : DeskNow) → desk_of cell pass stop ≡ d → d ≡ record { pass = p; stop = stop }
  held-is d view = sym view ∙ ap (λ (o : Option (Known Fixed)). desk_of cell o stop) is

  module _ (holds : HoldsPass cell pass stop) where
    pub held-desk : IsDesk (record { pass = p; stop = stop })
    held-desk = subst (λ (o : Option (Known Fixed)). IsDesk (desk_of cell o stop)) is holds.desk

    -- another pass of the same cell may take its place
    pub holds-next : (q : Known Fixed) (next : Option Stopped) → q.cell ≡ p.cell → IsDesk (record { pass = q; stop = next }) → HoldsPass cell (Some q) next
    holds-next q next same desk = record {
      some = refl;
      cell_is = same ∙ subst (λ (o : Option (Known Fixed)). (held cell o).cell ≡ cell) is holds.cell_is;
      desk = desk;
    }
