use Rattle.std.proofs.Common.{◌≡◌, ℕ, ◌-◌, ◌*◌, ◌%◌, ◌/◌, ◌+◌, ◌<◌, ◌≤◌, ◌^◌, List, length, map, take, drop, refl, ap, arith}
use Rattle.std.proofs.Math.Nat.{pow-le-pow_right}
use Rattle.std.specs.Simd.Lanes.{mask_l}
use Rattle.mkt_io.specs.Words.{is_blank}
use Rattle.mkt_io.proofs.EndsLemmas.{ends-fit, ends-last, ends-step}
use Rattle.mkt_io.specs.Ends.{ends_of}
use Rattle.mkt_io.proofs.lanes.short_ends.Goals as goal

-- the ends in the last bytes behind the first eight
last-ends : (line : List ℕ) (blanks : ℕ) → 8 ≤ length line → length line < 16 → blanks ≡ mask_l (map is_blank (take 8 (drop (length line - 8) line)))
    → (blanks / 2 ^ (8 - (length line - 8)) + 1 * 2 ^ (length line - 8) % 2 ^ 64 ≡ ends_of (drop 8 line))
    × (ends_of (drop 8 line) < 2 ^ 9)
last-ends line blanks long short is =
    let over = length line - 8 in
    let few : over ≤ 7 = omega (arith, long, short) in
    let power = pow-le-pow_right {n = 2} (omega arith) {i = over} {j = 7} few in
    let more = ends-last 8 line over (omega (arith, few)) long in
    let at : length line - over ≡ 8 = omega (arith, long) in
    let same : blanks / 2 ^ (8 - over) ≡ mask_l (map is_blank (take 8 (drop (length line - 8) line))) / 2 ^ (8 - over) = ap (λ n. n / 2 ^ (8 - over)) is in
    let there : ends_of (drop (length line - over) line) ≡ ends_of (drop 8 line) = ap (λ k. ends_of (drop k line)) at in
    (omega (arith, more, power, same, there), ends-fit line 8 9 (omega (arith, short)) long)

pub overflow_add-last : goal.overflow_add-last
overflow_add-last c =
    let t = last-ends c.args.line.now c.blanks_of_eight.result (omega (arith, c.if-n-lt-HALF.false)) c.requires c.blanks_of_eight.ensures in
    omega (arith, t.0, t.1)

-- the ends in all bytes
all-ends : (line : List ℕ) (blanks front : ℕ) → 8 ≤ length line → length line < 16 → blanks ≡ mask_l (map is_blank (take 8 (drop (length line - 8) line)))
    → front ≡ mask_l (map is_blank (take 8 (drop 0 line)))
    → ((blanks / 2 ^ (8 - (length line - 8)) + 1 * 2 ^ (length line - 8) % 2 ^ 64) * 256 % 2 ^ 64 + front ≡ ends_of line)
    × (ends_of line < 2 ^ 64)
all-ends line blanks front long short is front-is =
    let t = last-ends line blanks long short is in
    let more = ends-step 8 line 8 (ends_of (drop 8 line)) (omega arith) long refl in
    (omega (arith, t.0, t.1, more, front-is), ends-fit line 0 64 (omega (arith, short)) (omega arith))

pub overflow_add-result : goal.overflow_add-result
overflow_add-result c =
    let t = all-ends c.args.line.now c.blanks_of_eight.result c.blanks_of_eight-2.result (omega (arith, c.if-n-lt-HALF.false)) c.requires c.blanks_of_eight.ensures c.blanks_of_eight-2.ensures in
    omega (arith, t.0, t.1)

pub returns : goal.returns
returns c =
    (all-ends c.args.line.now c.blanks_of_eight.result c.blanks_of_eight-2.result (omega (arith, c.if-n-lt-HALF.false)) c.requires c.blanks_of_eight.ensures c.blanks_of_eight-2.ensures).0
