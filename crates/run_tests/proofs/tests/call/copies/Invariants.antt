use Rattle.std.proofs.Common.{◌≡◌, map, take, string_bytes}
use Rattle.run_tests.proofs.tests.call.copies.Given as goal

-- the copies so far have the bytes of the words so far
abbrev pub invariant-loop-word : goal.invariant-loop-word
invariant-loop-word l = map string_bytes l.copies.items ≡ map string_bytes (take l.word-index l.words)
