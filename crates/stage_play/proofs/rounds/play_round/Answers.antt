use Rattle.std.proofs.Common.{◌≡◌, ℕ, ◌+◌, ◌<◌, List, length, slice_index_or, subst, ◌∙◌, rules}
use Rattle.stage_play.specs.Playing.{HasLevelled}
use Rattle.stage_play.specs.declared.notes.Note.{Note}
use Rattle.stage_play.specs.declared.seen.Sight.{Sight}
use Rattle.stage_play.proofs.PlayLemmas.{may-run}
use Rattle.stage_play.proofs.RoundLemmas.{one-round, own-within}
use Rattle.stage_play.proofs.rounds.play_round.Goals as goal

pub run_part-requires : goal.run_part-requires
run_part-requires g c =
    let come = c.requires.come in
    may-run g.D.Desk.state g.D.Desk.fixed g.D.SeenDesk.caller g.D.Desk.takes g.D.Desk.tells (length c.args.sights.now) come.stages c.args.stage come.cuts come.old c.args.part.now come.ready come.done

pub returns-clause-on : goal.returns-clause-on
returns-clause-on g c =
    let issues = length c.args.sights.now in
    let q = c.run_part.new.part in
    let each : length q.desks.items ≡ issues = c.run_part.ensures.ran.did.each ∙ c.requires.come.done.desks in
    one-round g.D.Desk.state g.D.Desk.fixed g.D.SeenDesk.caller g.D.Desk.takes g.D.Desk.tells issues (length c.args.round.now) c.args.stage c.gather.new.board c.args.part.now q c.level_part.new.part c.run_part.ensures
    (subst (λ (ss : List Sight). HasLevelled g.D.Desk.state g.D.Desk.fixed g.D.SeenDesk.caller g.D.Desk.takes g.D.Desk.tells ss q c.level_part.new.part) c.add_up.ensures c.level_part.ensures)
    (own-within g.D.Desk.state g.D.Desk.fixed g.D.SeenDesk.caller g.D.Desk.takes g.D.Desk.tells issues c.args.first c.len-many.result c.note_own.new.board c.gather.new.board q each (search rules) (search rules)
    (subst (λ ds. (issue : ℕ) (d : g.row.D.Denot) (n : Note) → issue < length ds → slice_index_or c.note_own.new.board (c.args.first + issue) n ≡ record { issue = issue; sight = record { seen = (g.D.Desk.state (slice_index_or ds issue d)).seen; halted = (g.D.Desk.state (slice_index_or ds issue d)).ended } }) c.as_slice.ensures.value c.note_own.ensures)
    c.gather.ensures.own)
