-- Worked examples: the definitions compute to what a reader of the rules would say.
use Rattle.std.specs.Prelude.{◌≡◌, Some, None, refl, codes}
use Rattle.mkt_io.specs.Time.{digit_of, two_at, part_at, millis_of, time_of}

with_millis : time_of (codes "12:34:56.007") ≡ Some 45296007
unfolding digit_of two_at part_at millis_of time_of
with_millis = refl

without_millis : time_of (codes "23:59:59") ≡ Some 86399000
unfolding digit_of two_at part_at millis_of time_of
without_millis = refl

minute_60 : time_of (codes "12:60:00") ≡ None
unfolding digit_of two_at part_at millis_of time_of
minute_60 = refl

hour_24 : time_of (codes "24:00:00") ≡ None
unfolding digit_of two_at part_at millis_of time_of
hour_24 = refl

one_digit_missing : time_of (codes "12:34:56.07") ≡ None
unfolding digit_of two_at part_at millis_of time_of
one_digit_missing = refl

no_seconds : time_of (codes "12:34") ≡ None
unfolding digit_of two_at part_at millis_of time_of
no_seconds = refl
