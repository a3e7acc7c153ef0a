use Rattle.std.proofs.Common.{◌≡◌, ◌∙◌, ◌<◌, ◌++◌, length, drop, length-set, sym, ap, arith, rules}
use Rattle.std.proofs.lemmas.Fmt.{decimal_nonempty}
use Rattle.std.specs.Fmt.{decimal}
use Rattle.mkt_io.proofs.DecimalLemmas.{length-decimal-1, length-decimal-2, length-decimal-pair, pair-written, first-written, two-written}
use Rattle.mkt_io.proofs.text.write_decimal.Goals as goal

pub overflow_sub-at : goal.overflow_sub-at
overflow_sub-at c = omega (arith, length-decimal-pair c.loop-rest.rest (omega arith) (omega arith), c.loop-rest.invariant.left)

pub bounds-out-at : goal.bounds-out-at
bounds-out-at c = omega (arith, length-decimal-pair c.loop-rest.rest (omega arith) (omega arith), c.loop-rest.invariant.left, c.loop-rest.invariant.within)

pub bounds-out-at-in-loop-rest : goal.bounds-out-at-in-loop-rest
bounds-out-at-in-loop-rest c =
    simp length-set (omega (arith, length-decimal-pair c.loop-rest.rest (omega arith) (omega arith), c.loop-rest.invariant.left, c.loop-rest.invariant.within))

pub loop-rest-preserved : goal.loop-rest-preserved
loop-rest-preserved c =
    let l = c.loop-rest in
    let pair = length-decimal-pair l.rest (omega arith) (omega arith) in
    record {
      left = omega (arith, pair, l.invariant.left);
      within = simp length-set (omega (arith, l.invariant.within));
      written = rw (c.tens.ensures, c.ones.ensures) (pair-written c.args.n l.rest l.at l.out (omega arith) (omega arith) l.invariant.left l.invariant.within l.invariant.written);
    }

pub bounds-out-0 : goal.bounds-out-0
bounds-out-0 c =
    let h : 0 < length c.loop-rest.out = omega (arith, decimal_nonempty c.loop-rest.rest (omega arith), c.loop-rest.invariant.left, c.loop-rest.invariant.within) in
    search (rules, h)

pub bounds-out-1 : goal.bounds-out-1
bounds-out-1 c =
    let h : 1 < length c.loop-rest.out = omega (arith, length-decimal-2 c.loop-rest.rest (omega arith) (omega arith), c.loop-rest.invariant.left, c.loop-rest.invariant.within) in
    search (rules, h)

pub bounds-out-0-else-last-ge10 : goal.bounds-out-0-else-last-ge10
bounds-out-0-else-last-ge10 c =
    let h : 0 < length c.loop-rest.out = omega (arith, decimal_nonempty c.loop-rest.rest (omega arith), c.loop-rest.invariant.left, c.loop-rest.invariant.within) in
    search (rules, h)

pub returns-then-last-ge10 : goal.returns-then-last-ge10
returns-then-last-ge10 c =
    let l = c.loop-rest in
    let two : l.at ≡ 2 = omega (arith, length-decimal-2 l.rest (omega arith) (omega arith), l.invariant.left) in
    rw (c.tens-then-last-ge10.ensures, c.ones-then-last-ge10.ensures) (
    two-written c.args.n l.rest l.out (omega arith) (omega arith) (omega (arith, two, l.invariant.within)) (ap (λ k. decimal l.rest ++ drop k l.out) (sym two) ∙ l.invariant.written)
    )

pub returns-else-last-ge10 : goal.returns-else-last-ge10
returns-else-last-ge10 c =
    let l = c.loop-rest in
    let one : l.at ≡ 1 = omega (arith, length-decimal-1 l.rest (omega arith), l.invariant.left) in
    rw c.digit.ensures (
    first-written c.args.n l.rest l.out (omega arith) (omega (arith, one, l.invariant.within)) (ap (λ k. decimal l.rest ++ drop k l.out) (sym one) ∙ l.invariant.written)
    )
