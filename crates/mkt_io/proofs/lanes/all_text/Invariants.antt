use Rattle.std.proofs.Common.{◌≡◌, take}
use Rattle.std.specs.List.{list_all}
use Rattle.mkt_io.specs.Words.{is_text_byte}
use Rattle.mkt_io.proofs.lanes.all_text.Given as goal

-- whether the bytes so far are text
abbrev pub invariant-loop-byte : goal.invariant-loop-byte
invariant-loop-byte l = l.all ≡ list_all is_text_byte (take l.byte-index l.bytes)
