use Rattle.std.proofs.Common.{◌≡◌, ◌+◌, sym, subst, ◌∙◌, arith}
use Rattle.gateway_lines.specs.Lists.{AreCounts}
use Rattle.gateway_lines.proofs.LineLemmas.{AreEmpty, empty-more, empty-none, lists-none}
use Rattle.gateway_lines.proofs.making.empty_lists.Goals as goal

pub loop-count-init : goal.loop-count-init
loop-count-init c =
    let counts = c.deref-count-items.result.now in
    record {
      empty = subst (AreEmpty counts 0) (sym c.in_ok-lists.ensures.items) (empty-none counts);
      room = c.in_ok-lists.ensures.exact ∙ c.len.ensures ∙ sym c.deref-count-items.ensures.len;
    }

pub push_reserved-requires : goal.push_reserved-requires
push_reserved-requires c =
    let inv = c.loop-count.invariant in
    omega (arith, inv.empty.many, inv.room, c.loop-count.lists.ok, c.loop-count-test.true)

pub loop-count-preserved : goal.loop-count-preserved
loop-count-preserved c =
    let inv = c.loop-count.invariant in
    let counts = c.deref-count-items.result.now in
    let i = c.loop-count.count-index in
    let new = c.in_ok-with_capacity.field-0 in
    let more = empty-more counts i c.loop-count.lists.items new inv.empty c.loop-count-test.true c.in_ok-with_capacity.ensures.items c.in_ok-with_capacity.ensures.exact in
    record {
      empty = subst (AreEmpty counts (i + 1)) (sym c.push_reserved.ensures.items) more;
      room = c.push_reserved.ensures.capacity ∙ inv.room;
    }

pub returns : goal.returns
returns c =
    let counts = c.deref-count-items.result.now in
    let counted : AreCounts c.args.lines.now c.args.gateways counts = subst (AreCounts c.args.lines.now c.args.gateways) (sym c.deref-count-items.ensures.value) c.in_ok-counts.ensures in
    let all : c.loop-count.count-index ≡ c.args.gateways = omega (arith, c.loop-count-test.false, c.loop-count.auto.count-index-end, counted.many) in
    lists-none c.args.lines.now c.args.gateways counts c.loop-count.count-index c.loop-count.lists.items counted c.loop-count.invariant.empty all
