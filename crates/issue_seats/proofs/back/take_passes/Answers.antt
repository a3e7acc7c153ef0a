use Rattle.std.proofs.Common.{[], ◌∷◌, ◌++◌, List, sym, ap, ◌∙◌, arith, append_assoc}
use Rattle.std.proofs.lemmas.List.{map_push}
use Rattle.std.proofs.lemmas.List.Elements.{All-push}
use Rattle.turn_cell.specs.Passes.{Known}
use Rattle.issue_journal.specs.Issue.{Fixed}
use Rattle.issue_desk.specs.Desk.{DeskNow, IsDesk}
use Rattle.issue_seats.proofs.back.take_passes.Goals as goal

pub loop-desk-preserved : goal.loop-desk-preserved
loop-desk-preserved g c =
    let inv = c.loop-desk.invariant in
    let yielded = c.loop-desk.yielded in
    let desk : DeskNow = c.in-Some.desk in
    record {
      whole = append_assoc yielded (desk ∷ []) c.next.new.self.rest.items ∙ ap (λ (ds : List DeskNow). yielded ++ ds) (sym c.in-Some.ensures.steps.0) ∙ inv.whole;
      passes = c.push_reserved.ensures.items ∙ ap (λ (p : Known Fixed). c.loop-desk.passes.items ++ p ∷ []) c.into_pass.ensures.pass
          ∙ ap (λ (ps : List (Known Fixed)). ps ++ desk.pass ∷ []) inv.passes ∙ sym (map_push (λ (d : DeskNow). d.pass) yielded desk);
      desks = All-push IsDesk yielded desk inv.desks c.into_pass.ensures.desk;
      room = omega (arith, inv.room, c.push_reserved.ensures.capacity);
    }
