use Rattle.std.proofs.Common.{◌≡◌, ◌<◌, ℕ, ◌∷◌, drop, length, get_or, slice_index_or, sym, ap, ◌∙◌, arith}
use Rattle.std.proofs.lemmas.List.{get_or_default}
use Rattle.turn_cell.specs.Passes.{Known}
use Rattle.issue_journal.specs.Issue.{Fixed}
use Rattle.issue_desk.specs.Desk.{DeskNow}
use Rattle.issue_seats.specs.Steps.{HasJoined}
use Rattle.issue_seats.proofs.ListLemmas.{drop-on, drop-there, upto-more}
use Rattle.issue_seats.proofs.MeetLemmas.{joined-all, joined-is}
use Rattle.issue_seats.proofs.back.meet_passes.Goals as goal

pub meet-requires-clause-cells : goal.meet-requires-clause-cells
meet-requires-clause-cells g c =
    let n = c.loop-n.n in
    let desk : DeskNow = c.in-Some.desk in
    let q : Known Fixed = c.index-passes-n.result in
    let s = c.index-servers-n.result in
    let is : drop n c.args.desks.items ≡ desk ∷ c.next.new.self.rest.items = sym c.loop-n.invariant.left ∙ c.in-Some.ensures.items in
    let there = drop-there c.args.desks.items n desk c.next.new.self.rest.items is desk in
    let may = c.requires.each n s desk q (omega (arith, c.loop-n-test.true)) in (
      ap (λ (z : Known Fixed). z.cell) (c.loop-n.invariant.met.rest n q (omega arith)) ∙ may.pass ∙ sym c.index-servers-n.is,
      ap (λ (z : Known Fixed). z.cell) c.into_pass.ensures.pass ∙ ap (λ (d : DeskNow). d.pass.cell) (sym there) ∙ may.desk ∙ sym c.index-servers-n.is,
    )

pub meet-requires-clause-block : goal.meet-requires-clause-block
meet-requires-clause-block g c =
    let n = c.loop-n.n in
    let desk : DeskNow = c.in-Some.desk in
    let is : drop n c.args.desks.items ≡ desk ∷ c.next.new.self.rest.items = sym c.loop-n.invariant.left ∙ c.in-Some.ensures.items in
    let there = drop-there c.args.desks.items n desk c.next.new.self.rest.items is desk in
    let may = c.requires.each n c.index-servers-n.result desk c.index-passes-n.result (omega (arith, c.loop-n-test.true)) in
    ap (λ (z : Known Fixed). z.block) c.into_pass.ensures.pass ∙ ap (λ (d : DeskNow). d.pass.block) (sym there) ∙ may.block

pub loop-n-preserved : goal.loop-n-preserved
loop-n-preserved g c =
    let n = c.loop-n.n in
    let desks = c.args.desks.items in
    let desk : DeskNow = c.in-Some.desk in
    let rest = c.next.new.self.rest.items in
    let passes = c.loop-n.passes in
    let q : Known Fixed = c.index-passes-n.result in
    let within : n < length passes = omega (arith, c.loop-n-test.true, c.loop-n.auto.passes) in
    let is : drop n desks ≡ desk ∷ rest = sym c.loop-n.invariant.left ∙ c.in-Some.ensures.items in
    let e = c.meet.ensures in
    record {
      left = drop-on desks n desk rest is;
      met = upto-more (λ (k : ℕ) (a b : Known Fixed). (d : DeskNow) → HasJoined (slice_index_or desks k d) a b) c.args.passes.now passes n c.meet.new.pass within c.loop-n.invariant.met
          (λ p d. joined-is (get_or desks n d) desk c.into_pass.result (get_or passes n q) (get_or passes n p) c.meet.new.pass (drop-there desks n desk rest is d) c.into_pass.ensures.pass
          (get_or_default passes n p q within) c.into_pass.ensures.desk e.pass e.grows e.holds);
    }

pub returns : goal.returns
returns g c = joined-all c.args.desks.items c.args.passes.now c.loop-n.passes c.loop-n.n (omega (arith, c.loop-n-test.false)) c.loop-n.invariant.met
