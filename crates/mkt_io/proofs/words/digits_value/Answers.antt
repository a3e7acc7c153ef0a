use Rattle.std.proofs.Common.{◌≤◌, length, take, length-take, arith}
use Rattle.mkt_io.proofs.WordLemmas.{digits_value-lt}
use Rattle.mkt_io.proofs.words.digits_value.Goals as goal

pub overflow_mul-value : goal.overflow_mul-value
overflow_mul-value c =
    let l = c.loop-byte in
    let before = take l.byte-index c.args.word.now in
    let short : length before ≤ 9 = omega (arith, c.requires, c.loop-byte-test.true, length-take l.byte-index c.args.word.now) in
    omega (arith, digits_value-lt before l.invariant.all_digits short, l.invariant.value)

pub overflow_add-value : goal.overflow_add-value
overflow_add-value c =
    let l = c.loop-byte in
    let before = take l.byte-index c.args.word.now in
    let short : length before ≤ 9 = omega (arith, c.requires, c.loop-byte-test.true, length-take l.byte-index c.args.word.now) in
    omega (arith, digits_value-lt before l.invariant.all_digits short, l.invariant.value)
