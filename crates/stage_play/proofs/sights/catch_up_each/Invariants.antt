use Rattle.std.proofs.Common.{ℕ, slice_index_or}
use Rattle.stage_play.specs.Seen.{CaughtUp}
use Rattle.stage_play.specs.declared.seen.Sight.{Sight}
use Rattle.stage_play.proofs.UptoLemmas.{Upto}
use Rattle.stage_play.proofs.sights.catch_up_each.Given as goal

-- the desks so far have caught up
abbrev pub invariant-loop-issue : goal.invariant-loop-issue
invariant-loop-issue g l =
    Upto (λ (issue : ℕ) (a b : g.row.D.Denot). (s : Sight) → CaughtUp g.D.Desk.state g.D.Desk.fixed g.D.SeenDesk.caller g.D.Desk.tells (slice_index_or l.sights issue s) a b) l.initial.desks l.desks l.issue
