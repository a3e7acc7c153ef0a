use Rattle.std.proofs.Common.{◌≡◌, ℕ, ◌+◌, ◌-◌, ◌/◌, ◌<◌, true, false, sym, ap, ◌∙◌, arith, subst}
use Rattle.book_law.specs.BookView.{IsGridOf}
use Rattle.itayose.specs.Search.{is_past}
use Rattle.itayose.specs.Walk.{sums_of}
use Rattle.itayose.proofs.ReadLemmas.{halved-first, halved-next, halved-reads}
use Rattle.itayose.proofs.RunLemmas.{not_past-below}
use Rattle.itayose.proofs.search.first_past.Goals as goal

pub loop-low-init : goal.loop-low-init
loop-low-init g c = record {
  after = omega arith;
  order = omega arith;
  within = omega arith;
  before = λ k h l. absurd (omega arith);
  past = λ h. absurd (omega arith);
  reads = λ halvings h. halved-first c.args.book.now.prices halvings c.args.steps.now (c.args.to - c.args.from) h;
}

pub loop-low-preserved-then-is_past : goal.loop-low-preserved-then-is_past
loop-low-preserved-then-is_past g c =
    let inv = c.loop-low.invariant in
    let low : ℕ = c.loop-low.low in
    let middle : ℕ = low + (c.loop-low.high - low) / 2 in
    record {
      after = inv.after;
      order = omega arith;
      within = omega (arith, inv.order, inv.within);
      before = inv.before;
      past = λ h. ap (is_past c.args.end) (sym c.sums_counted.ensures.sums) ∙ sym c.is_past.ensures ∙ c.if-is_past.true;
      reads = λ halvings h. halved-next c.args.book.now.prices halvings c.args.steps.now c.loop-low.steps c.sums_counted.new.steps (c.loop-low.high - low) (middle - low) (inv.reads halvings h) (omega (arith, c.loop-low-test.true)) (omega arith) c.sums_counted.ensures.reads;
    }

pub loop-low-preserved : goal.loop-low-preserved
loop-low-preserved g c =
    let inv = c.loop-low.invariant in
    let low : ℕ = c.loop-low.low in
    let high : ℕ = c.loop-low.high in
    let middle : ℕ = low + (high - low) / 2 in
    let grid = c.args.grid.now in
    let test : low < high = c.loop-low-test.true in
    let of : IsGridOf c.args.book.now grid = record { rising = c.stands.ensures.rising; size = c.requires.size } in
    let here : is_past c.args.end (sums_of c.args.book.now grid middle) ≡ false = ap (is_past c.args.end) (sym c.sums_counted.ensures.sums) ∙ sym c.is_past.ensures ∙ c.if-is_past.false in
    record {
      after = omega (arith, inv.after);
      order = omega arith;
      within = inv.within;
      before = λ k h l. not_past-below c.args.book.now grid of c.args.end k middle (omega arith) (omega (arith, inv.within, c.requires.in_range)) here;
      past = inv.past;
      reads = λ halvings h. halved-next c.args.book.now.prices halvings c.args.steps.now c.loop-low.steps c.sums_counted.new.steps (high - low) (high - (middle + 1)) (inv.reads halvings h) (omega arith) (omega arith) c.sums_counted.ensures.reads;
    }

pub returns-clause-found : goal.returns-clause-found
returns-clause-found g c =
    let inv = c.loop-low.invariant in
    let same : c.loop-low.high ≡ c.loop-low.low = omega (arith, inv.order, c.loop-low-test.false) in
    record {
      after = inv.after;
      within = omega (arith, inv.order, inv.within);
      before = inv.before;
      past = λ h. subst (λ i. is_past c.args.end (sums_of c.args.book.now c.args.grid.now i) ≡ true) same (inv.past (omega (arith, inv.order, same)));
    }

pub returns-clause-reads : goal.returns-clause-reads
returns-clause-reads g c halvings h = halved-reads c.args.book.now.prices halvings c.args.steps.now c.loop-low.steps (c.loop-low.high - c.loop-low.low) (c.loop-low.invariant.reads halvings h)
