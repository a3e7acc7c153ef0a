use Rattle.std.proofs.Common.{◌≡◌, ◌<◌, [], true, append-nil, rules, sym}
use Rattle.node_rules.specs.Nodes.{crashes}
use Rattle.mirror.specs.Replicas.{node_at}
use Rattle.turn_writer.proofs.Going.{caught_at-spared, caught_at-still, not-joining, one-same}
use Rattle.turn_writer.proofs.catching.catch_one.Goals as goal

pub returns-then-crashes-clause-caught : goal.returns-then-crashes-clause-caught
returns-then-crashes-clause-caught g c = λ _.
    let crash : crashes c.args.event.now c.args.k ≡ true = search rules in
    let node : c.args.k < 3 = search rules in (
      [],
      sym (append-nil c.args.lost.now),
      one-same c.args.event.now c.args.k c.args.mirror.now node (caught_at-spared c.args.event.now c.args.mirror.now.length c.args.k _ crash),
    )

pub returns-in_default : goal.returns-in_default
returns-in_default g c =
    let node : c.args.k < 3 = search rules in record {
      caught = λ _. (
        [],
        sym (append-nil c.args.lost.now),
        one-same c.args.event.now c.args.k c.args.mirror.now node
            (caught_at-still c.args.event.now c.args.mirror.now.length c.args.k (node_at c.args.k c.args.mirror.now).state
            (not-joining c.state.result (node_at c.args.k c.args.mirror.now).state c.state.ensures.value c.in_default.not-Joining)),
      );
      gone = λ e. absurd (cc);
    }
