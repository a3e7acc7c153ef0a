-- A desk that was answered that no node is left, or has seen a halt, has ended.
use Rattle.std.proofs.Common.{◌≡◌, Bool, true, false, ◌||◌, refl, ap}
use Rattle.std.specs.Prelude.{is_some}
use Rattle.mkt_base.specs.Desk.{IsDeskState}
use Rattle.issue_desk.specs.Desk.{DeskNow, is_no_node, state_of}

pub or-left : (a b : Bool) → a ≡ true → (a || b) ≡ true
or-left true b is = refl
or-left false b is = absurd (cc)

pub or-right : (a b : Bool) → b ≡ true → (a || b) ≡ true
or-right true b is = refl
or-right false b is = is

pub sound_of : (d : DeskNow) → IsDeskState (state_of d)
sound_of d = record {
  no_node = λ event is. or-right _ (is_no_node d.stop) (ap is_no_node is);
  halted = λ h is. or-left _ _ (ap is_some is);
}
