use Rattle.std.proofs.Common.{length, take}
use Rattle.gateway_lines.specs.Lists.{AreLists}
use Rattle.gateway_lines.proofs.making.share_lines.Given as goal

abbrev pub invariant-loop-of : goal.invariant-loop-of
invariant-loop-of l = AreLists l.lines (take l.of-index l.lines) (length l.fn.lists) l.lists
