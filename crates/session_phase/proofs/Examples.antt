-- Worked examples: the definitions compute to what a reader of the rules would say. Times in milliseconds.
use Rattle.std.specs.Prelude.{◌≡◌, List, [], ◌∷◌, Some, None, refl}
use Rattle.mkt_base.specs.declared.event.Phase.TheVariants.{Idle, Collecting, Trading}
use Rattle.session_phase.specs.Sessions.{next_boundary, phase_of}
use Rattle.session_phase.specs.declared.session.Session.{Session}
use Rattle.session_phase.specs.declared.session.Boundary.TheVariants.{Accept, Begin, Finish}

-- 08:00, 09:00, 11:30 and 12:05, 12:30, 15:00
abbrev day : List Session
day = record { accept = 28800000; begin = 32400000; finish = 41400000 } ∷ record { accept = 43500000; begin = 45000000; finish = 54000000 } ∷ []

collecting_at_eight : phase_of day 28800000 ≡ Collecting
unfolding phase_of
collecting_at_eight = refl

idle_just_before_eight : phase_of day 28799999 ≡ Idle
unfolding phase_of
idle_just_before_eight = refl

collecting_just_before_nine : phase_of day 32399999 ≡ Collecting
unfolding phase_of
collecting_just_before_nine = refl

trading_at_nine : phase_of day 32400000 ≡ Trading
unfolding phase_of
trading_at_nine = refl

idle_at_the_finish : phase_of day 41400000 ≡ Idle
unfolding phase_of
idle_at_the_finish = refl

trading_after_noon : phase_of day 53999999 ≡ Trading
unfolding phase_of
trading_after_noon = refl

first_of_the_day : next_boundary day 0 ≡ Some (28800000, Accept)
unfolding next_boundary
first_of_the_day = refl

after_itself : next_boundary day 28800000 ≡ Some (32400000, Begin)
unfolding next_boundary
after_itself = refl

over_noon : next_boundary day 41400000 ≡ Some (43500000, Accept)
unfolding next_boundary
over_noon = refl

last_of_the_day : next_boundary day 53999999 ≡ Some (54000000, Finish)
unfolding next_boundary
last_of_the_day = refl

none_after_the_last : next_boundary day 54000000 ≡ None
unfolding next_boundary
none_after_the_last = refl
