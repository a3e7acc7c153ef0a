use Rattle.std.proofs.Common.{◌≡◌, ℕ, ◌-◌, ◌≤◌, length}
use Rattle.stage_law.specs.Come.{Cut}
use Rattle.stage_play.specs.Playing.{AllDone}
use Rattle.stage_play.proofs.stages.play_stages.Given as goal

-- all have done the stages before this one
abbrev pub invariant-loop-stage : goal.invariant-loop-stage
invariant-loop-stage g l =
    (length l.parts.items ≡ length l.fn.parts.items) × (length l.sights ≡ length l.initial.sights) × (l.stage ≤ l.stages) × (l.room ≤ length l.cells)
    × ((cuts : ℕ → ℕ → Cut) × AllDone g.D.Desk.state g.D.Desk.fixed g.D.SeenDesk.caller g.D.Desk.takes g.D.Desk.tells (length l.initial.sights) l.stage cuts l.fn.parts.items l.parts.items)

abbrev pub decreases-loop-stage : goal.decreases-loop-stage
decreases-loop-stage g l = l.stages - l.stage
