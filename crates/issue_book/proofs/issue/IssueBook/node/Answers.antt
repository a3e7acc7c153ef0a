use Rattle.std.proofs.Common.{◌≡◌, ◌<◌, length, Some, get_or, sym, ap, subst, ◌∙◌, arith}
use Rattle.std.specs.List.{slice_get}
use Rattle.std.proofs.lemmas.Option.{slice_get-get_or}
use Rattle.mkt_base.specs.declared.journal.NodeState.TheVariants.{Lost}
use Rattle.issue_book.proofs.issue.IssueBook.node.Goals as goal

pub returns : goal.returns
returns c =
    let nodes = c.self.inside.nodes in
    let at : c.args.node ≡ c.from.result = sym (c.from.ensures ∙ c.n.ensures.value) in
    let within : c.from.result < length nodes = omega (arith, c.n.ensures.a_node, c.from.ensures, c.self.invariant.nodes) in
    record {
      state = subst (λ v. slice_get v.state.nodes c.args.node ≡ Some (get_or nodes c.from.result Lost)) c.self.view_is
          (ap (λ n. slice_get nodes n) at ∙ slice_get-get_or nodes c.from.result Lost within);
      three = subst (λ v. length v.state.nodes ≡ 3) c.self.view_is c.self.invariant.nodes;
    }
