use Rattle.order_list.specs.Lists.{IsIn}
use Rattle.order_list.proofs.CallLemmas.{next-live}
use Rattle.order_list.proofs.StayLemmas.{if-some}
use Rattle.std.proofs.Common.{sym, ◌∙◌, ap, subst}
use Rattle.std.specs.List.{after_first}
use Rattle.slab.specs.Slab.{ContainsKey, get}
use Rattle.order_list.specs.Lists.{is_at, first_link, list_at}
use Rattle.order_list.proofs.CallLemmas.{has-key, live-in, next-is}
use Rattle.order_list.proofs.SoundLemmas.{lists-are}
use Rattle.order_list.proofs.lists.OrderList.next.Goals as goal

pub index-requires : goal.index-requires
index-requires g c =
    subst (ContainsKey c.self.inside.nodes) (sym c.key.ensures.value)
    (has-key c.self.inside.nodes c.self.inside.ends.items c.self.invariant c.args.self.now c.args.link c.self.view_is c.requires)

pub returns-clause-exact : goal.returns-clause-exact
returns-clause-exact g c list item live =
    let nodes = c.self.inside.nodes in
    let ends = c.self.inside.ends.items in
    c.link.ensures
    ∙ next-is nodes ends c.self.invariant c.args.link list item c.index.result.now (live-in nodes ends c.self.invariant c.args.self.now c.args.link list item c.self.view_is live)
    (ap (get nodes) (sym c.key.ensures.value) ∙ c.index.ensures)
    ∙ ap (λ ls. first_link (after_first (is_at c.args.link) (list_at ls list))) (sym (lists-are nodes ends c.args.self.now c.self.invariant c.self.view_is))

pub returns-clause-live : goal.returns-clause-live
returns-clause-live g c list item live =
    let nodes = c.self.inside.nodes in
    let ends = c.self.inside.ends.items in
    let are = lists-are nodes ends c.args.self.now c.self.invariant c.self.view_is in
    if-some c.link.result (λ next. (there : g.row.T.Denot) × IsIn c.args.self.now.lists next list there)
    (λ next is.
    subst (λ ls. (there : g.row.T.Denot) × IsIn ls next list there) (sym are)
    (next-live nodes ends c.self.invariant c.args.link list item c.index.result.now next
    (live-in nodes ends c.self.invariant c.args.self.now c.args.link list item c.self.view_is live)
    (ap (get nodes) (sym c.key.ensures.value) ∙ c.index.ensures) (sym c.link.ensures ∙ is)))
