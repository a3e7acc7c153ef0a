use Rattle.std.proofs.Common.{subst}
use Rattle.order_list.specs.Lists.{IsIn}
use Rattle.order_list.proofs.CallLemmas.{front-live}
use Rattle.order_list.proofs.StayLemmas.{if-some}
use Rattle.std.proofs.Common.{◌≡◌, ◌<◌, List, length, sym, ◌∙◌, ap, arith}
use Rattle.order_list.specs.Lists.{Linked, first_link, list_at}
use Rattle.order_list.specs.Key.{link_of}
use Rattle.order_list.specs.Links.{end_at, no_ends}
use Rattle.order_list.specs.declared.node.Ends.{Ends}
use Rattle.std.proofs.lemmas.List.{get_or_default}
use Rattle.order_list.proofs.CallLemmas.{front-is}
use Rattle.order_list.proofs.SoundLemmas.{lists-are}
use Rattle.order_list.proofs.lists.OrderList.front.Goals as goal

pub returns-clause-exact : goal.returns-clause-exact
returns-clause-exact g c =
    let nodes = c.self.inside.nodes in
    let ends = c.self.inside.ends.items in
    let are = lists-are nodes ends c.args.self.now c.self.invariant c.self.view_is in
    let within : c.args.list < length c.self.invariant.lists = omega (arith, c.requires, ap (length {A = List (Linked g.row.T.Denot)}) are) in
    let end : c.index.result.now ≡ end_at ends c.args.list =
    c.index.ensures ∙ get_or_default ends c.args.list c.index.result.now (no_ends c.args.list) (omega (arith, within, c.self.invariant.linked.same)) in
    c.link.ensures ∙ ap (λ (e : Ends). link_of e.first) end ∙ front-is nodes ends c.self.invariant c.args.list within
    ∙ ap (λ ls. first_link (list_at ls c.args.list)) (sym are)

pub returns-clause-live : goal.returns-clause-live
returns-clause-live g c =
    let nodes = c.self.inside.nodes in
    let ends = c.self.inside.ends.items in
    let are = lists-are nodes ends c.args.self.now c.self.invariant c.self.view_is in
    let within : c.args.list < length c.self.invariant.lists = omega (arith, c.requires, ap (length {A = List (Linked g.row.T.Denot)}) are) in
    let end : c.index.result.now ≡ end_at ends c.args.list =
    c.index.ensures ∙ get_or_default ends c.args.list c.index.result.now (no_ends c.args.list) (omega (arith, within, c.self.invariant.linked.same)) in
    if-some c.link.result (λ link. (item : g.row.T.Denot) × IsIn c.args.self.now.lists link c.args.list item)
    (λ link is.
    subst (λ ls. (item : g.row.T.Denot) × IsIn ls link c.args.list item) (sym are)
    (front-live nodes ends c.self.invariant c.args.list link within (sym (ap (λ (e : Ends). link_of e.first) end) ∙ (sym c.link.ensures ∙ is))))
