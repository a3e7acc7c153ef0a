-- A moment that is printed reads back.
use Rattle.std.proofs.Common.{◌≡◌, ℕ, ◌+◌, ◌*◌, ◌/◌, ◌%◌, ◌<◌, ◌≤◌, ltb, true, List, length, slice_index, Some, refl, ap, ◌∙◌, arith}
use Rattle.std.proofs.lemmas.Bool.Decides.{nat_tests}
use Rattle.mkt_base.specs.Text.{time_text}
use Rattle.mkt_io.specs.Time.{PrintedMomentsReadBack, digit_of, millis_of, part_at, time_of, two_at}

digit_of-printed : (d : ℕ) → d < 10 → digit_of (48 + d) ≡ Some d
unfolding digit_of
digit_of-printed d h = grind (arith, nat_tests)

two_at-printed : (word : List ℕ) (at n : ℕ) → slice_index word at ≡ 48 + n / 10 → slice_index word (at + 1) ≡ 48 + n % 10 → n < 100 → two_at word at ≡ Some n
unfolding two_at
two_at-printed word at n tens ones small =
    let a : n / 10 < 10 = omega arith in
    let b : n % 10 < 10 = omega arith in
    rw (tens, ones, digit_of-printed (n / 10) a, digit_of-printed (n % 10) b) (ap Some (omega arith))

part_at-printed : (limit : ℕ) (word : List ℕ) (at n : ℕ) → slice_index word at ≡ 48 + n / 10 → slice_index word (at + 1) ≡ 48 + n % 10 → n < limit → limit ≤ 100 → part_at limit word at ≡ Some n
unfolding part_at
part_at-printed limit word at n tens ones below small =
    let within : ltb n limit ≡ true = grind (arith, nat_tests) in
    rw (two_at-printed word at n tens ones (omega arith), within) refl

millis_of-printed : (word : List ℕ) (n : ℕ) → length word ≡ 12 → slice_index word 8 ≡ 46 → slice_index word 9 ≡ 48 + n / 100 → slice_index word 10 ≡ 48 + n % 100 / 10 → slice_index word 11 ≡ 48 + n % 100 % 10 → n < 1000
    → millis_of word ≡ Some n
unfolding millis_of
millis_of-printed word n twelve point hundreds tens ones small =
    rw (twelve, point, hundreds, digit_of-printed (n / 100) (omega arith), two_at-printed word 10 (n % 100) tens ones (omega arith)) (ap Some (omega arith))

time_of-parts : (word : List ℕ) (hours minutes seconds ms : ℕ) → slice_index word 2 ≡ 58 → slice_index word 5 ≡ 58 → part_at 24 word 0 ≡ Some hours → part_at 60 word 3 ≡ Some minutes → part_at 60 word 6 ≡ Some seconds → millis_of word ≡ Some ms
    → time_of word ≡ Some (((hours * 60 + minutes) * 60 + seconds) * 1000 + ms)
unfolding time_of
time_of-parts word hours minutes seconds ms a b h m s l = rw (a, b, h, m, s, l) refl

pub read_back : PrintedMomentsReadBack
read_back ms h =
    let word = time_text ms in
    time_of-parts word (ms / 3600000) (ms / 60000 % 60) (ms / 1000 % 60) (ms % 1000) refl refl
    (part_at-printed 24 word 0 (ms / 3600000) refl refl (omega arith) (omega arith))
    (part_at-printed 60 word 3 (ms / 60000 % 60) refl refl (omega arith) (omega arith))
    (part_at-printed 60 word 6 (ms / 1000 % 60) refl refl (omega arith) (omega arith))
    (millis_of-printed word (ms % 1000) refl refl refl refl refl (omega arith))
    ∙ ap Some (omega arith)
