use Rattle.std.proofs.Common.{◌≡◌, length, vec_capacity}
use Rattle.gateway_lines.proofs.LineLemmas.{AreEmpty}
use Rattle.gateway_lines.proofs.making.empty_lists.Given as goal

-- a list for each count so far, and room for the others
abbrev pub invariant-loop-count : goal.invariant-loop-count
invariant-loop-count l = record {
  empty : AreEmpty l.count-items l.count-index l.lists.items;
  room : vec_capacity l.lists ≡ length l.count-items;
}
