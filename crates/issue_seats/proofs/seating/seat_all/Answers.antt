use Rattle.std.proofs.Common.{◌≡◌, [], ◌∷◌, ◌++◌, List, length, get_or, sym, ap, subst, ◌∙◌, arith}
use Rattle.std.specs.Prelude.{All}
use Rattle.std.specs.Vec.Iter.{into_iter_items}
use Rattle.std.proofs.lemmas.List.{get_or_default}
use Rattle.gateway.specs.Ran.{GatewayNow}
use Rattle.issue_desk.specs.Desk.{DeskNow}
use Rattle.stage_play.specs.declared.part.Part.{Part}
use Rattle.issue_seats.specs.Steps.{AreSplit, MaySplit}
use Rattle.issue_seats.proofs.SeatLemmas.{Seating, first-begin, seating-all, seating-more, seating-one, seating-some, seating-splits}
use Rattle.issue_seats.proofs.seating.seat_all.Goals as goal

pub first_desks-requires : goal.first_desks-requires
first_desks-requires g c = first-begin (length c.args.gateways.items) c.requires.served.0 c.args.servers.now c.args.passes.items c.requires.served.1

pub loop-gateway-init : goal.loop-gateway-init
loop-gateway-init g c =
    let part : Part DeskNow = record { gateway = c.in-Some.gateway; desks = c.in_ok-desks.desks } in
    let parts : c.push_reserved.new.self.items ≡ part ∷ [] = c.push_reserved.ensures.items ∙ ap (λ (ps : List (Part DeskNow)). ps ++ part ∷ []) c.in-Ok.ensures.items in
    let left : c.into_iter-gateway-iterator.result.rest.items ≡ c.next.new.self.rest.items = ap into_iter_items c.into_iter-gateway-iterator.ensures.into_iter_gives in
    let all : c.args.gateways.items ≡ c.in-Some.gateway ∷ c.next.new.self.rest.items = sym c.into_iter-gateways.ensures.rest ∙ c.in-Some.ensures.items in
    let one = seating-one c.args.gateways.items c.args.servers.now c.args.passes.items c.in-Some.gateway c.next.new.self.rest.items part all (λ i. c.in-Some.gateway) c.in_ok-desks.ensures in
    record {
      seating = subst (λ (gs : List GatewayNow). Seating c.args.gateways.items gs c.args.servers.now c.args.passes.items c.push_reserved.new.self.items) (sym left)
          (subst (λ (ps : List (Part DeskNow)). Seating c.args.gateways.items c.next.new.self.rest.items c.args.servers.now c.args.passes.items ps) (sym parts) one);
      room = omega (arith, c.push_reserved.ensures.capacity, c.in-Ok.ensures.exact, c.len.ensures, c.args.gateways.ok);
    }

pub next_part-requires : goal.next_part-requires
next_part-requires g c =
    let s : Seating c.args.gateways.items (c.in-Some-gateway.gateway ∷ c.next-in-loop-gateway.new.self.rest.items) c.args.servers.now c.args.passes.items c.loop-gateway.parts.items =
    subst (λ (gs : List GatewayNow). Seating c.args.gateways.items gs c.args.servers.now c.args.passes.items c.loop-gateway.parts.items) c.in-Some-gateway.ensures.steps.0 c.loop-gateway.invariant.seating in
    subst (λ (x : Part DeskNow). All MaySplit x.desks.items) (sym c.index_mut.ensures.value)
    (seating-splits c.args.gateways.items c.args.servers.now c.args.passes.items c.in-Some-gateway.gateway c.next-in-loop-gateway.new.self.rest.items c.loop-gateway.parts.items c.requires.served.0 c.requires.served.1
    c.requires.few.1 s c.index_mut.result.now)

pub push_reserved-requires-in-loop-gateway : goal.push_reserved-requires-in-loop-gateway
push_reserved-requires-in-loop-gateway g c =
    let s : Seating c.args.gateways.items (c.in-Some-gateway.gateway ∷ c.next-in-loop-gateway.new.self.rest.items) c.args.servers.now c.args.passes.items c.loop-gateway.parts.items =
    subst (λ (gs : List GatewayNow). Seating c.args.gateways.items gs c.args.servers.now c.args.passes.items c.loop-gateway.parts.items) c.in-Some-gateway.ensures.steps.0 c.loop-gateway.invariant.seating in
    let few = seating-some c.args.gateways.items c.args.servers.now c.args.passes.items c.in-Some-gateway.gateway c.next-in-loop-gateway.new.self.rest.items c.loop-gateway.parts.items c.requires.served.0 c.requires.served.1 s in
    omega (arith, few.1, c.loop-gateway.parts.ok, c.loop-gateway.invariant.room)

pub loop-gateway-preserved : goal.loop-gateway-preserved
loop-gateway-preserved g c =
    let parts = c.loop-gateway.parts.items in
    let all = c.args.gateways.items in
    let servers = c.args.servers.now in
    let passes = c.args.passes.items in
    let left = c.next-in-loop-gateway.new.self.rest.items in
    let first = c.next_part.new.first in
    let part = c.in_ok-part.part in
    let s : Seating all (c.in-Some-gateway.gateway ∷ left) servers passes parts =
    subst (λ (gs : List GatewayNow). Seating all gs servers passes parts) c.in-Some-gateway.ensures.steps.0 c.loop-gateway.invariant.seating in
    let some = seating-some all servers passes c.in-Some-gateway.gateway left parts c.requires.served.0 c.requires.served.1 s in
    let at : (p : Part DeskNow) → c.index_mut.result.now ≡ get_or parts 0 p = λ p. c.index_mut.ensures.value ∙ get_or_default parts 0 c.index_mut.result.now p some.0 in
    let more = seating-more all servers passes c.in-Some-gateway.gateway left parts first part s
    (λ p. subst (λ (x : Part DeskNow). AreSplit x.desks.items first.desks.items part.desks.items) (at p) c.in_ok-part.ensures.split)
    (λ p. c.in_ok-part.ensures.same ∙ ap (λ (x : Part DeskNow). x.gateway) (at p)) c.in_ok-part.ensures.gateway in
    record {
      seating = subst (λ (ps : List (Part DeskNow)). Seating all left servers passes ps) (sym c.push_reserved-in-loop-gateway.ensures.items) more;
      room = omega (arith, c.push_reserved-in-loop-gateway.ensures.capacity, c.loop-gateway.invariant.room);
    }

pub returns : goal.returns
returns g c =
    seating-all c.args.gateways.items c.args.servers.now c.args.passes.items c.loop-gateway.gateway-iterator.rest.items c.loop-gateway.parts.items
    (omega (arith, c.in-None.ensures.steps.0, c.loop-gateway.gateway-iterator.rest.ok)) c.loop-gateway.invariant.seating
