use Rattle.std.proofs.Common.{◌≡◌, take, true}
use Rattle.std.specs.List.{list_all}
use Rattle.mkt_io.specs.Words.{is_digit, digits_value}
use Rattle.mkt_io.proofs.words.digits_value.Given as goal

-- the value of the digits so far
abbrev pub invariant-loop-byte : goal.invariant-loop-byte
invariant-loop-byte l = record {
  all_digits : list_all is_digit (take l.byte-index l.word) ≡ true;
  value : l.value ≡ digits_value (take l.byte-index l.word);
}
