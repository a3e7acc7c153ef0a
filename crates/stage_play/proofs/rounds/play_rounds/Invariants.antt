use Rattle.std.proofs.Common.{◌≡◌, ◌+◌, ◌*◌, length}
use Rattle.stage_play.specs.Blocks.{Advances}
use Rattle.stage_play.proofs.rounds.play_rounds.Given as goal

-- the rounds so far are played
abbrev pub invariant-loop-turn : goal.invariant-loop-turn
invariant-loop-turn g l =
    (length l.board ≡ length l.initial.board) × (length l.sights ≡ length l.initial.sights) × (length l.rest + l.turn * length l.board ≡ length l.fn.cells)
    × (length l.gathered.values ≡ l.turn * length l.board) × (l.gathered.room ≡ l.initial.gathered.room)
    × Advances g.D.Desk.state g.D.Desk.fixed g.D.SeenDesk.caller g.D.Desk.takes g.D.Desk.tells (length l.sights) (length l.board) l.stage l.turn l.gathered.values l.initial.part l.part
