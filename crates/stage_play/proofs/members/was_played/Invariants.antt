use Rattle.std.proofs.Common.{ℕ, ◌<◌, slice_index_or}
use Rattle.stage_play.specs.Blocks.{Knows}
use Rattle.stage_play.specs.declared.blocks.Member.{Member}
use Rattle.stage_play.proofs.members.was_played.Given as goal

-- those so far know the same as the first
abbrev pub invariant-loop-member : goal.invariant-loop-member
invariant-loop-member g l = (k : ℕ) (m : Member g.row.D.Denot) → k < l.member-index → Knows l.first.go.value l.first.gathered.values (slice_index_or l.members k m)
