use Rattle.std.proofs.Common.{◌≡◌, ℕ, map}
use Rattle.stage_play.specs.Seen.{seen_by}
use Rattle.stage_play.specs.Playing.{desk_at}
use Rattle.stage_play.specs.declared.part.Part.{Part}
use Rattle.stage_play.specs.declared.seen.Sight.{Sight}
use Rattle.stage_play.proofs.UptoLemmas.{Upto}
use Rattle.stage_play.proofs.sights.look.Given as goal

-- the sights of the issues so far are told
abbrev pub invariant-loop-issue : goal.invariant-loop-issue
invariant-loop-issue g l =
    Upto (λ (issue : ℕ) (s t : Sight). (d : g.row.D.Denot) → t ≡ seen_by (map (λ (p : Part g.row.D.Denot). g.D.Desk.state (desk_at p issue d)) l.parts)) l.initial.sights l.sights l.issue
