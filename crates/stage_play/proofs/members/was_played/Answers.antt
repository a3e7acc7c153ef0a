use Rattle.std.proofs.Common.{rules, subst, slice_index_or}
use Rattle.stage_play.specs.Blocks.{Knows}
use Rattle.stage_play.proofs.members.was_played.Goals as goal

pub returns : goal.returns
returns g c = (c.in-Some.first.gathered.values, λ k m within. subst (λ b. Knows b c.in-Some.first.gathered.values (slice_index_or c.args.members.now k m)) (search rules) (c.loop-member.invariant k m (search rules)))
