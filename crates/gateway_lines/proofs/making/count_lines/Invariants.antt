use Rattle.std.proofs.Common.{take}
use Rattle.gateway_lines.specs.Lists.{AreCounts}
use Rattle.gateway_lines.proofs.making.count_lines.Given as goal

abbrev pub invariant-loop-of : goal.invariant-loop-of
invariant-loop-of l = AreCounts (take l.of-index l.lines) l.gateways l.counts.items
