use Rattle.std.proofs.Common.{◌≡◌, ◌+◌, ◌++◌, length, map, take, vec_len, vec_capacity}
use Rattle.all_gather.specs.Rounds.{Keeps}
use Rattle.all_gather.proofs.rounds.take_all.Given as goal

-- the cells so far are read, and their values stand on the board
abbrev pub invariant-loop-place : goal.invariant-loop-place
invariant-loop-place g l =
    (map g.V.Packed.unpacked l.log.items ≡ map g.V.Packed.unpacked l.initial.log.items ++ take l.place l.board)
    × (length l.board ≡ length l.initial.board) × Keeps l.first l.many l.initial.board l.board
    × (vec_len l.log ≡ vec_len l.initial.log + l.place) × (vec_capacity l.log ≡ vec_capacity l.initial.log)
