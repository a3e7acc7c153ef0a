use Rattle.std.proofs.Common.{◌≡◌, ℕ, ◌+◌, List, length, vec_capacity, sym, ap, subst, arith}
use Rattle.mkt_base.specs.declared.units.Caller.{Caller}
use Rattle.gateway.specs.Ran.{GatewayNow}
use Rattle.gateway_lines.proofs.LineLemmas.{AreSoFar, so-far-more}
use Rattle.gateway_lines.proofs.making.number_gateways.Goals as goal

pub loop-list-preserved : goal.loop-list-preserved
loop-list-preserved c =
    let lists = c.args.lists.items in
    let left = c.next.new.self.rest.items in
    let made = c.loop-list.made in
    let caller = ap (λ (own : Caller). own.0) c.in-Ok-make.ensures.caller in
    let number : c.in-Ok-make.gateway.caller.0 ≡ length made.items + 1 = omega (arith, caller, c.len-in-loop-list.ensures, made.ok) in
    let more = so-far-more lists c.loop-list.list-iterator.rest.items made.items (vec_capacity made) c.in-Some.list left c.loop-list.invariant c.in-Some.ensures.steps.0 c.in-Ok-make.gateway number
    c.in-Ok-make.ensures.lines c.in-Ok-make.ensures.shows in
    subst (λ (n : ℕ). AreSoFar lists left c.push_reserved.new.self.items n) (sym c.push_reserved.ensures.capacity)
    (subst (λ (gs : List GatewayNow). AreSoFar lists left gs (vec_capacity made)) (sym c.push_reserved.ensures.items) more)
