use Rattle.std.proofs.Common.{◌≡◌, ℕ, ◌+◌, ◌-◌, ◌<◌, ◌≤◌, ◌++◌, List, Vec, Global, length, get_or, set, take, drop, sym, ap, subst, ◌∙◌, arith, vec_capacity}
use Rattle.mkt_base.specs.declared.script.ShowLine.{ShowLine}
use Rattle.gateway.specs.Ran.{GatewayNow}
use Rattle.script_file.specs.declared.script.GatewayScriptLine.{GatewayScriptLine}
use Rattle.show_merge.specs.Merged.{AreMerged}
use Rattle.show_merge.proofs.MergeLemmas.{IsMerging, merged-are, merging-begins, merging-ends, merging-passed, merging-taken, reads-there, reads_at}
use Rattle.show_merge.proofs.merge.merge_shows.Goals as goal
use Rattle.show_merge.proofs.merge.merge_shows.Goals.{then-is_read, else-is_read}

pub loop-of-init : goal.loop-of-init
loop-of-init c = merging-begins c.args.lines.now c.args.gateways.now c.args.next.now c.args.shows.now.items (vec_capacity c.args.shows.now) c.requires.next.0 c.requires.next.1 c.requires.empty c.requires.room

pub loop-of-preserved : goal.loop-of-preserved
loop-of-preserved c =
    let lines = c.args.lines.now in
    let gateways = c.args.gateways.now in
    let i = c.loop-of.of-index in
    let of = c.of-item.result in
    let next = c.loop-of.next in
    let shows = c.loop-of.shows.items in
    let room = vec_capacity c.loop-of.shows in
    let below = c.loop-of-test.true in
    elim c.if-is_read.branch [
      | then-is_read w ↦
          let k : ℕ = w.from-k.result - 1 in
          let known : (1 ≤ of.gateway.0) × (of.gateway.0 ≤ length gateways) =
          subst (λ (l : GatewayScriptLine). (1 ≤ l.gateway.0) × (l.gateway.0 ≤ length gateways)) (sym c.of-item.is) (c.requires.gateways i of below) in
          let number : of.gateway.0 ≡ k + 1 = omega (arith, known.0, w.from-k.ensures) in
          let within : k < length gateways = omega (arith, known.1, number) in
          let reads : w.shows.result.now ≡ reads_at gateways k =
          w.shows.ensures ∙ ap (λ (g : GatewayNow). g.shows) w.index-gateways-k.is ∙ sym (reads-there gateways k within w.index-gateways-k.result) in
          let taken : IsMerging lines gateways (i + 1) (set next k w.take_next.new.next) w.take_next.new.shows.items room =
          merging-taken lines gateways i of below c.of-item.is next shows room c.loop-of.invariant (sym c.is_read.ensures ∙ w.if-is_read.true) k w.take_next.new.next number within w.take_next.new.shows.items
          (w.take_next.ensures.taken ∙ ap (λ (ss : List ShowLine). shows ++ take 1 (drop (get_or next k 0) ss)) reads)
          (subst (λ (ss : List ShowLine). drop w.take_next.new.next ss ≡ drop 1 (drop (get_or next k 0) ss)) reads w.take_next.ensures.left) in
          subst (λ (ns : List ℕ). IsMerging lines gateways (i + 1) ns c.if-is_read.shows.items (vec_capacity c.if-is_read.shows)) (sym w.next-is)
          (subst (λ (v : Vec ShowLine Global). IsMerging lines gateways (i + 1) (set next k w.take_next.new.next) v.items (vec_capacity v)) (sym w.shows-is)
          (subst (λ (n : ℕ). IsMerging lines gateways (i + 1) (set next k w.take_next.new.next) w.take_next.new.shows.items n) (sym w.take_next.ensures.room) taken))
      | else-is_read w ↦
          subst (λ (ns : List ℕ). IsMerging lines gateways (i + 1) ns c.if-is_read.shows.items (vec_capacity c.if-is_read.shows)) (sym w.next-is)
          (subst (λ (v : Vec ShowLine Global). IsMerging lines gateways (i + 1) next v.items (vec_capacity v)) (sym w.shows-is)
          (merging-passed lines gateways i of below c.of-item.is next shows room c.loop-of.invariant (sym c.is_read.ensures ∙ w.if-is_read.false)))
    ]

pub returns : goal.returns
returns c =
    subst (AreMerged c.args.lines.now c.args.gateways.now)
    (sym (merging-ends c.args.lines.now c.args.gateways.now c.loop-of.of-index c.loop-of.next c.loop-of.shows.items (vec_capacity c.loop-of.shows) c.loop-of-test.false c.loop-of.invariant))
    (merged-are c.args.lines.now c.args.gateways.now c.requires.gateways)
