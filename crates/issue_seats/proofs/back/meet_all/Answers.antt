use Rattle.std.proofs.Common.{◌≡◌, ◌<◌, ℕ, [], ◌∷◌, ◌++◌, List, length, slice_index_or, sym, ap, subst, ◌∙◌, arith}
use Rattle.std.specs.Vec.Iter.{into_iter_items}
use Rattle.atomic_table.specs.Seated.{TableId}
use Rattle.turn_cell.specs.Passes.{Known}
use Rattle.issue_journal.specs.Issue.{Fixed}
use Rattle.gateway.specs.Ran.{GatewayNow}
use Rattle.issue_desk.specs.Desk.{DeskNow}
use Rattle.stage_play.specs.declared.part.Part.{Part}
use Rattle.issue_seats.specs.Steps.{AreJoined, MayMeet}
use Rattle.issue_seats.proofs.ListLemmas.{written-back}
use Rattle.issue_seats.proofs.MeetLemmas.{Meeting, meeting-long, meeting-may, meeting-more, meeting-one, meeting-passes}
use Rattle.issue_seats.proofs.back.meet_all.Goals as goal

pub loop-gateway-init : goal.loop-gateway-init
loop-gateway-init g c =
    let part : Part DeskNow = c.in-Some.field-0 in
    let all = c.args.parts.items in
    let servers = c.args.servers.now in
    let left : c.into_iter-gateway-iterator.result.rest.items ≡ c.next.new.self.rest.items = ap into_iter_items c.into_iter-gateway-iterator.ensures.into_iter_gives in
    let whole : all ≡ part ∷ c.next.new.self.rest.items = sym c.into_iter-parts.ensures.rest ∙ c.in-Some.ensures.items in
    let back : c.push_reserved.new.self.items ≡ part.gateway ∷ [] = c.push_reserved.ensures.items ∙ ap (λ (gs : List GatewayNow). gs ++ part.gateway ∷ []) c.requires.gateways.0 in
    let one = meeting-one c.requires.desks.0 servers all c.requires.desks.1 part c.next.new.self.rest.items c.push_reserved.new.self.items c.take_passes.new.passes.items whole back c.take_passes.ensures.desks
    c.take_passes.ensures.passes in
    record {
      meeting = subst (λ (ps : List (Part DeskNow)). Meeting all ps servers c.push_reserved.new.self.items c.take_passes.new.passes.items) (sym left) one;
      room = omega (arith, c.push_reserved.ensures.capacity, c.requires.gateways.1);
    }

pub meet_passes-requires-clause-desks : goal.meet_passes-requires-clause-desks
meet_passes-requires-clause-desks g c =
    let part : Part DeskNow = c.in-Some-2.field-0 in
    let left = c.next-in-loop-gateway.new.self.rest.items in
    let s : Meeting c.args.parts.items (part ∷ left) c.args.servers.now c.loop-gateway.gateways.items c.loop-gateway.passes.items =
    subst (λ (ps : List (Part DeskNow)). Meeting c.args.parts.items ps c.args.servers.now c.loop-gateway.gateways.items c.loop-gateway.passes.items) c.in-Some-2.ensures.steps.0 c.loop-gateway.invariant.meeting in
    meeting-long c.requires.desks.0 c.args.servers.now c.args.parts.items c.requires.desks.1 part left c.loop-gateway.gateways.items c.loop-gateway.passes.items s
    ∙ ap (λ (ps : List (Known Fixed)). length ps) (sym c.as_mut_slice.ensures.value)

pub meet_passes-requires-clause-each : goal.meet_passes-requires-clause-each
meet_passes-requires-clause-each g c =
    let part : Part DeskNow = c.in-Some-2.field-0 in
    let left = c.next-in-loop-gateway.new.self.rest.items in
    let s : Meeting c.args.parts.items (part ∷ left) c.args.servers.now c.loop-gateway.gateways.items c.loop-gateway.passes.items =
    subst (λ (ps : List (Part DeskNow)). Meeting c.args.parts.items ps c.args.servers.now c.loop-gateway.gateways.items c.loop-gateway.passes.items) c.in-Some-2.ensures.steps.0 c.loop-gateway.invariant.meeting in
    subst
    (λ (ps : List (Known Fixed)). (n : ℕ) (t : TableId) (d : DeskNow) (q : Known Fixed) → n < length ps → MayMeet (slice_index_or c.args.servers.now n t) (slice_index_or part.desks.items n d) (slice_index_or ps n q))
    (sym c.as_mut_slice.ensures.value)
    (meeting-may c.requires.desks.0 c.args.servers.now c.args.parts.items c.requires.desks.1 part left c.loop-gateway.gateways.items c.loop-gateway.passes.items s)

pub loop-gateway-preserved : goal.loop-gateway-preserved
loop-gateway-preserved g c =
    let part : Part DeskNow = c.in-Some-2.field-0 in
    let all = c.args.parts.items in
    let servers = c.args.servers.now in
    let gateways = c.loop-gateway.gateways.items in
    let old = c.loop-gateway.passes.items in
    let new = c.meet_passes.new.passes in
    let left = c.next-in-loop-gateway.new.self.rest.items in
    let s : Meeting all (part ∷ left) servers gateways old = subst (λ (ps : List (Part DeskNow)). Meeting all ps servers gateways old) c.in-Some-2.ensures.steps.0 c.loop-gateway.invariant.meeting in
    let joined : AreJoined part.desks.items old new = subst (λ (ps : List (Known Fixed)). AreJoined part.desks.items ps new) c.as_mut_slice.ensures.value c.meet_passes.ensures in
    let more = meeting-more c.requires.desks.0 servers all c.requires.desks.1 part left gateways old new s joined in
    let long : length new ≡ c.loop-gateway.passes.len = omega (arith, joined.same, c.loop-gateway.passes.ok) in
    record {
      meeting = subst (λ (ps : List (Known Fixed)). Meeting all left servers c.push_reserved-in-loop-gateway.new.self.items ps) (sym (written-back c.loop-gateway.passes.len old new long joined.same))
          (subst (λ (gs : List GatewayNow). Meeting all left servers gs new) (sym c.push_reserved-in-loop-gateway.ensures.items) more);
      room = omega (arith, c.push_reserved-in-loop-gateway.ensures.capacity, c.loop-gateway.invariant.room);
    }

pub returns-clause-passes : goal.returns-clause-passes
returns-clause-passes g c =
    meeting-passes c.args.servers.now c.args.parts.items c.loop-gateway.gateway-iterator.rest.items c.loop-gateway.gateways.items c.loop-gateway.passes.items
    (omega (arith, c.in-None.ensures.steps.0, c.loop-gateway.gateway-iterator.rest.ok)) c.loop-gateway.invariant.meeting
