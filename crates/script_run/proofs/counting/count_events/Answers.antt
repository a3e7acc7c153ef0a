use Rattle.std.proofs.Common.{◌≡◌, ℕ, ◌+◌, ◌<◌, ◌≤◌, List, Vec, Global, length, take, get_or, set, sym, ap, subst, ◌∙◌, arith}
use Rattle.std.proofs.lemmas.List.{length-take}
use Rattle.std.proofs.lemmas.List.Sums.{count_by-le-length}
use Rattle.script_file.specs.declared.script.GatewayScriptLine.{GatewayScriptLine}
use Rattle.script_run.specs.Running.{count_for, counts_for, is_for}
use Rattle.script_run.proofs.CountLemmas.{count-at, counts-event, counts-none, counts-shown, length-counts}
use Rattle.script_run.proofs.counting.count_events.Goals as goal
use Rattle.script_run.proofs.counting.count_events.Goals.{then-is_event, else-is_event}

pub loop-of-init : goal.loop-of-init
loop-of-init c = c.in_ok-counts.ensures.items_if_clones_equal (λ y is. is) ∙ counts-none c.args.issues

pub index_mut-requires : goal.index_mut-requires
index_mut-requires c =
    let within : c.of-item.result.line.issue < c.args.issues =
    subst (λ (of : GatewayScriptLine). of.line.issue < c.args.issues) (sym c.of-item.is) (c.requires c.loop-of.of-index c.of-item.result c.loop-of-test.true) in
    let long : length c.loop-of.counts.items ≡ c.args.issues = ap length c.loop-of.invariant ∙ length-counts c.args.issues (take c.loop-of.of-index c.args.lines.now) in
    omega (arith, within, long)

pub overflow_add-index_mut : goal.overflow_add-index_mut
overflow_add-index_mut c =
    let k = c.loop-of.of-index in
    let of = c.of-item.result in
    let within : of.line.issue < c.args.issues =
    subst (λ (l : GatewayScriptLine). l.line.issue < c.args.issues) (sym c.of-item.is) (c.requires k of c.loop-of-test.true) in
    let count : get_or c.loop-of.counts.items of.line.issue c.index_mut.result.now ≡ count_for of.line.issue (take k c.args.lines.now) =
    ap (λ ns. get_or ns of.line.issue c.index_mut.result.now) c.loop-of.invariant ∙ count-at c.args.lines.now k of c.loop-of-test.true c.of-item.is c.args.issues c.index_mut.result.now within in
    let read : c.index_mut.result.now ≡ get_or c.loop-of.counts.items of.line.issue c.index_mut.result.now =
    c.index_mut.ensures.value ∙ ap (λ n. get_or c.loop-of.counts.items n c.index_mut.result.now) c.from.ensures in
    let few : count_for of.line.issue (take k c.args.lines.now) ≤ length (take k c.args.lines.now) = count_by-le-length (is_for of.line.issue) (take k c.args.lines.now) in
    omega (arith, count, read, few, length-take k c.args.lines.now)

pub loop-of-preserved : goal.loop-of-preserved
loop-of-preserved c =
    let k = c.loop-of.of-index in
    let of = c.of-item.result in
    let lines = c.args.lines.now in
    let within : of.line.issue < c.args.issues =
    subst (λ (l : GatewayScriptLine). l.line.issue < c.args.issues) (sym c.of-item.is) (c.requires k of c.loop-of-test.true) in
    let written : ℕ → List ℕ = λ n. set (counts_for c.args.issues (take k lines)) of.line.issue (n + 1) in
    elim c.if-is_event.branch [
      | then-is_event w ↦
          let read : w.index_mut.result.now ≡ count_for of.line.issue (take k lines) =
          w.index_mut.ensures.value ∙ ap (λ n. get_or c.loop-of.counts.items n w.index_mut.result.now) w.from.ensures
          ∙ ap (λ ns. get_or ns of.line.issue w.index_mut.result.now) c.loop-of.invariant ∙ count-at lines k of c.loop-of-test.true c.of-item.is c.args.issues w.index_mut.result.now within in
          ap (λ (v : Vec ℕ Global). v.items) w.counts-is
          ∙ ap (λ (n : ℕ). set c.loop-of.counts.items n (w.index_mut.result.now + 1)) w.from.ensures
          ∙ ap (λ (ns : List ℕ). set ns of.line.issue (w.index_mut.result.now + 1)) c.loop-of.invariant
          ∙ ap written read
          ∙ counts-event lines k of c.loop-of-test.true c.of-item.is c.args.issues within (sym c.is_event.ensures ∙ w.if-is_event.true)
      | else-is_event w ↦
          ap (λ (v : Vec ℕ Global). v.items) w.counts-is ∙ c.loop-of.invariant
          ∙ counts-shown lines k of c.loop-of-test.true c.of-item.is c.args.issues (sym c.is_event.ensures ∙ w.if-is_event.false)
    ]
