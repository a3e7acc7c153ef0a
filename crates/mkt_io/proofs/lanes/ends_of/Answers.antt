use Rattle.std.proofs.Common.{◌≡◌, ℕ, ◌-◌, ◌*◌, ◌%◌, ◌/◌, ◌+◌, ◌<◌, ◌≤◌, ◌^◌, List, length, map, take, drop, ap, arith}
use Rattle.std.proofs.Math.Nat.{pow-le-pow_right}
use Rattle.std.specs.Simd.Lanes.{mask_l}
use Rattle.mkt_io.specs.Words.{is_blank}
use Rattle.mkt_io.proofs.EndsLemmas.{ends-fit, ends-last, ends-step}
use Rattle.mkt_io.specs.Ends.{ends_of}
use Rattle.mkt_io.proofs.lanes.ends_of.Goals as goal

-- the ends in the last bytes, fewer than sixteen
last-ends : (line : List ℕ) (blanks : ℕ) → 16 ≤ length line → length line ≤ 63 → blanks ≡ mask_l (map is_blank (take 16 (drop (length line - 16) line)))
    → (blanks / 2 ^ (16 - length line % 16) + 1 * 2 ^ (length line % 16) % 2 ^ 64 ≡ ends_of (drop (length line - length line % 16) line))
    × (ends_of (drop (length line - length line % 16) line) < 2 ^ 64)
last-ends line blanks long short is =
    let over = length line % 16 in
    let few : over ≤ 15 = omega arith in
    let power = pow-le-pow_right {n = 2} (omega arith) {i = over} {j = 15} few in
    let more = ends-last 16 line over (omega arith) long in
    let same : blanks / 2 ^ (16 - over) ≡ mask_l (map is_blank (take 16 (drop (length line - 16) line))) / 2 ^ (16 - over) = ap (λ n. n / 2 ^ (16 - over)) is in
    (omega (arith, more, power, same), ends-fit line (length line - over) 64 (omega arith) (omega arith))

pub overflow_add-ends : goal.overflow_add-ends
overflow_add-ends c = let t = last-ends c.args.line.now c.blanks_at.result (omega arith) (omega arith) c.blanks_at.ensures in omega (arith, t.0, t.1)

pub loop-at-init : goal.loop-at-init
loop-at-init c =
    let t = last-ends c.args.line.now c.blanks_at.result (omega arith) (omega arith) c.blanks_at.ensures in
    record { ends = t.0; within = omega arith; whole = omega arith }

pub overflow_add-ends-in-loop-at : goal.overflow_add-ends-in-loop-at
overflow_add-ends-in-loop-at c =
    let line = c.args.line.now in
    let at = c.loop-at.at in
    let low : 16 ≤ at = omega arith in
    let short : length line < 64 = omega arith in
    let more = ends-step 16 line at c.loop-at.ends low c.loop-at.invariant.within c.loop-at.invariant.ends in
    let fits = ends-fit line at 48 (omega arith) c.loop-at.invariant.within in
    let all = ends-fit line (at - 16) 64 (omega arith) (omega (arith, c.loop-at.invariant.within)) in
    omega (arith, more, fits, all, c.loop-at.invariant.ends, c.blanks_at-in-loop-at.ensures)

pub loop-at-preserved : goal.loop-at-preserved
loop-at-preserved c =
    let line = c.args.line.now in
    let at = c.loop-at.at in
    let low : 16 ≤ at = omega arith in
    let short : length line < 64 = omega arith in
    let more = ends-step 16 line at c.loop-at.ends low c.loop-at.invariant.within c.loop-at.invariant.ends in
    let fits = ends-fit line at 48 (omega arith) c.loop-at.invariant.within in
    record { ends = omega (arith, more, fits, c.loop-at.invariant.ends, c.blanks_at-in-loop-at.ensures); within = omega (arith, c.loop-at.invariant.within); whole = omega (arith, c.loop-at.invariant.whole) }
