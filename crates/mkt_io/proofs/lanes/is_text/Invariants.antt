use Rattle.std.proofs.Common.{◌≡◌, ◌*◌, ◌-◌, ◌&&◌, take, drop}
use Rattle.std.specs.List.{list_all}
use Rattle.mkt_io.specs.Words.{is_text_byte}
use Rattle.mkt_io.proofs.lanes.is_text.Given as goal

-- whether the bytes so far and the last sixteen are text
abbrev pub invariant-loop-i : goal.invariant-loop-i
invariant-loop-i l = l.all ≡ (list_all is_text_byte (take (16 * l.i) l.line) && list_all is_text_byte (drop (l.n - 16) l.line))
