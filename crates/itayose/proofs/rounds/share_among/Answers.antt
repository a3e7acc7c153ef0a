use Rattle.std.proofs.Common.{◌<◌, ◌≤◌, All, sym, subst}
use Rattle.itayose.proofs.AllotLemmas.{allot-once, allot-participants, last-round}
use Rattle.itayose.proofs.RoundsLemmas.{counts}
use Rattle.itayose.proofs.rounds.share_among.Goals as goal

pub allot-requires-clause-last : goal.allot-requires-clause-last
allot-requires-clause-last g c = last-round c.args.rounds.now c.requires.rounds

pub by_participant-requires-clause-participants : goal.by_participant-requires-clause-participants
by_participant-requires-clause-participants g c =
    subst (All (λ d. d.participant.0 < 64)) (sym c.allot.ensures) (allot-participants c.args.rounds.now c.args.unit c.args.given c.args.demands.now c.requires.demands.unshared c.requires.demands.participants)

pub by_participant-requires-clause-once : goal.by_participant-requires-clause-once
by_participant-requires-clause-once g c = λ q.
    subst (λ ds. counts q ds ≤ 1) (sym c.allot.ensures) (allot-once c.args.rounds.now c.args.unit c.args.given c.args.demands.now c.requires.demands.unshared q (c.requires.demands.once q))
