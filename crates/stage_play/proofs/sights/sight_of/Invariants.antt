use Rattle.std.proofs.Common.{◌≡◌, map, drop}
use Rattle.stage_play.specs.Seen.{joined, seen_by}
use Rattle.stage_play.specs.Playing.{desk_at}
use Rattle.stage_play.specs.declared.part.Part.{Part}
use Rattle.stage_play.proofs.sights.sight_of.Given as goal

-- what was seen so far and what the desks that are left have seen is what all have seen
abbrev pub invariant-loop-part : goal.invariant-loop-part
invariant-loop-part g l =
    (d : g.row.D.Denot) → joined l.sight (seen_by (map (λ (p : Part g.row.D.Denot). g.D.Desk.state (desk_at p l.issue d)) (drop l.part-index l.parts))) ≡ seen_by (map (λ (p : Part g.row.D.Denot). g.D.Desk.state (desk_at p l.issue d)) l.parts)
