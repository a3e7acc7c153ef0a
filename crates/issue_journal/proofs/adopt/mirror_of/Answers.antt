use Rattle.std.proofs.Common.{◌≡◌, ℕ, List, get_or, map, sym, ap, subst, ◌∙◌}
use Rattle.mkt_base.specs.declared.journal.NodeState.{NodeState}
use Rattle.mirror.specs.Mirrored.{AreMirrored}
use Rattle.mirror.specs.Replicas.{Replica, replica, state_at}
use Rattle.record_codec.specs.Entry.{spelling}
use Rattle.issue_journal.proofs.Adopting.{left_of}
use Rattle.issue_journal.proofs.Meeting.{is-met, left-chain, met-chain, met-mirrored}
use Rattle.issue_journal.proofs.adopt.mirror_of.Goals as goal

pub resume-requires : goal.resume-requires
resume-requires g c =
    let zero : get_or c.numbers.result 0 c.index-numbers-0.result ≡ 0 = ap (λ (ns : List ℕ). get_or ns 0 c.index-numbers-0.result) c.numbers.ensures in
    let one : get_or c.numbers.result 1 c.index-numbers-1.result ≡ 1 = ap (λ (ns : List ℕ). get_or ns 1 c.index-numbers-1.result) c.numbers.ensures in
    let two : get_or c.numbers.result 2 c.index-numbers-2.result ≡ 2 = ap (λ (ns : List ℕ). get_or ns 2 c.index-numbers-2.result) c.numbers.ensures in
    let nodes : List NodeState = c.nodes_after-states.result in
    let after : List NodeState = c.lose_gone-3.new.states in
    let chain : after ≡ left_of c.is_gone.result c.is_gone-2.result c.is_gone-3.result nodes =
    left-chain nodes c.lose_gone.new.states c.lose_gone-2.new.states after c.is_gone.result c.is_gone-2.result c.is_gone-3.result _ _ _
    c.lose_gone.ensures.states c.lose_gone-2.ensures.states c.lose_gone-3.ensures.states zero one two in
    record {
      mirrored = (
        map spelling c.args.log.now,
        subst (λ (r : Replica). AreMirrored (map spelling c.args.log.now) c.args.end (state_at after 0) (state_at after 1) (state_at after 2) r.contents (g.N.MemoryNode.contents c.second.inside.node) (g.N.MemoryNode.contents c.third.inside.node)) (sym c.first.view_is)
            (subst (λ (r : Replica). AreMirrored (map spelling c.args.log.now) c.args.end (state_at after 0) (state_at after 1) (state_at after 2) c.args.first.contents r.contents (g.N.MemoryNode.contents c.third.inside.node)) (sym c.second.view_is)
            (subst (λ (r : Replica). AreMirrored (map spelling c.args.log.now) c.args.end (state_at after 0) (state_at after 1) (state_at after 2) c.args.first.contents c.args.second.contents r.contents) (sym c.third.view_is)
            (met-mirrored c.args.log.now c.args.end c.requires.read.0 c.args.first c.args.second c.args.third c.requires.read.1 nodes after c.nodes_after-states.ensures
            c.is_gone.result c.is_gone-2.result c.is_gone-3.result c.is_gone.ensures c.is_gone-2.ensures c.is_gone-3.ensures chain))),
      );
    }

pub returns-clause-met : goal.returns-clause-met
returns-clause-met g c = λ m read.
    let zero : get_or c.numbers.result 0 c.index-numbers-0.result ≡ 0 = ap (λ (ns : List ℕ). get_or ns 0 c.index-numbers-0.result) c.numbers.ensures in
    let one : get_or c.numbers.result 1 c.index-numbers-1.result ≡ 1 = ap (λ (ns : List ℕ). get_or ns 1 c.index-numbers-1.result) c.numbers.ensures in
    let two : get_or c.numbers.result 2 c.index-numbers-2.result ≡ 2 = ap (λ (ns : List ℕ). get_or ns 2 c.index-numbers-2.result) c.numbers.ensures in
    let nodes : List NodeState = c.nodes_after-states.result in
    let after : List NodeState = c.lose_gone-3.new.states in
    let chain : after ≡ left_of c.is_gone.result c.is_gone-2.result c.is_gone-3.result nodes =
    left-chain nodes c.lose_gone.new.states c.lose_gone-2.new.states after c.is_gone.result c.is_gone-2.result c.is_gone-3.result _ _ _
    c.lose_gone.ensures.states c.lose_gone-2.ensures.states c.lose_gone-3.ensures.states zero one two in
    is-met c.args.log.now c.args.end m c.args.first c.args.second c.args.third read nodes after c.nodes_after-states.ensures
    c.is_gone.result c.is_gone-2.result c.is_gone-3.result c.is_gone.ensures c.is_gone-2.ensures c.is_gone-3.ensures chain c.resume.result c.lose_gone-3.new.lost
    (met-chain _ c.lose_gone.new.lost c.lose_gone-2.new.lost c.lose_gone-3.new.lost c.is_gone.result c.is_gone-2.result c.is_gone-3.result _ _ _ c.none-lost.ensures
    c.lose_gone.ensures.lost c.lose_gone-2.ensures.lost c.lose_gone-3.ensures.lost zero one two)
    (c.resume.ensures.first ∙ ap (λ (r : Replica). replica (state_at after 0) r.contents r.spare r.label r.most r.faults) c.first.view_is)
    (c.resume.ensures.second ∙ ap (λ (r : Replica). replica (state_at after 1) r.contents r.spare r.label r.most r.faults) c.second.view_is)
    (c.resume.ensures.third ∙ ap (λ (r : Replica). replica (state_at after 2) r.contents r.spare r.label r.most r.faults) c.third.view_is)
