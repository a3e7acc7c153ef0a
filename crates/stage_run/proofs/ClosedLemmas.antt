-- The issues that were closed with the passes of all gateways.
use Rattle.std.proofs.Common.{◌≡◌, ℕ, ◌<◌, List, length, ◌∙◌, arith, slice_index_or}
use Rattle.std.proofs.lemmas.Option.{same_Some}
use Rattle.atomic_table.specs.Seated.{TableId}
use Rattle.turn_cell.specs.Passes.{Known}
use Rattle.script_file.specs.declared.script.Script.{Script}
use Rattle.issue_journal.specs.Issue.{Fixed, IssueNow}
use Rattle.gateway.specs.Ran.{GatewayNow}
use Rattle.issue_desk.specs.Closed.{HasClosed}
use Rattle.issue_seats.specs.Back.{AreClosed}
use Rattle.stage_run.specs.Played.{WereAtDesks, WerePlayed}
use Rattle.stage_run.proofs.DoneLemmas.{no_desk}
use Rattle.stage_run.proofs.ReadyLemmas.{item}

pub were-played : (script : Script) (gateways : ℕ) (old new : List IssueNow) (servers : List TableId) (gs : List GatewayNow) (passes : List (Known Fixed)) → length servers ≡ length old
    → WereAtDesks script gateways old servers gs passes → AreClosed passes new → WerePlayed script gateways old new gs
were-played script gateways old new servers gs passes many at closed = record {
  deeds = at.deeds;
  cuts = at.cuts;
  desks = at.desks;
  final = λ n. slice_index_or passes n no_desk.pass;
  all = at.all;
  issues_each = closed.many ∙ at.passes_each ∙ many;
  fixed = λ n i within. same_Some (slice_index_or new n i).fixed (slice_index_or old n i).fixed ((has-closed n i within).fixed ∙ at.fixed n i no_desk.pass within);
  closed = has-closed;
}
  where
    has-closed : (n : ℕ) (i : IssueNow) → n < length old → HasClosed gateways (at.desks n) (slice_index_or passes n no_desk.pass) (slice_index_or new n i)
    has-closed n i within =
        let s : TableId = item servers n (omega (arith, within, many)) in
        closed.each n no_desk.pass i gateways (at.desks n) (slice_index_or servers n s) (omega (arith, within, many, at.passes_each)) (at.met n s no_desk.pass within)
