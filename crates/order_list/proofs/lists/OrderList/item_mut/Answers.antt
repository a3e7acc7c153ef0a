use Rattle.std.proofs.Common.{◌-◌, refl, sym, ◌∙◌, ap, subst}
use Rattle.slab.specs.Slab.{ContainsKey, get, with_value}
use Rattle.order_list.specs.Lists.{Lists, with_item}
use Rattle.order_list.specs.Links.{ChangesNode}
use Rattle.order_list.proofs.CallLemmas.{has-key, item-is, live-in, replaced, written-item}
use Rattle.order_list.proofs.SoundLemmas.{lists-are, shown-is}
use Rattle.order_list.proofs.lists.OrderList.item_mut.Goals as goal

pub index_mut-node-requires : goal.index_mut-node-requires
index_mut-node-requires g c =
    subst (ContainsKey c.self.inside.nodes) (sym c.key.ensures.value)
    (has-key c.self.inside.nodes c.self.inside.ends.items c.self.invariant c.args.self.now c.args.link c.self.view_is c.requires)

pub invariant_of-self-lent : goal.invariant_of-self-lent
invariant_of-self-lent g c w =
    let nodes = c.self.inside.nodes in
    let ends = c.self.inside.ends.items in
    let live = live-in nodes ends c.self.invariant c.args.self.now c.args.link c.requires.0 c.requires.1 c.self.view_is c.requires.2 in
    let node = c.index_mut-node.result.now in
    (replaced nodes _ ends c.self.invariant c.args.link c.requires.0 c.requires.1 w live
    (subst (λ k. ChangesNode (λ n. record n { item = w }) nodes k (with_value nodes c.key.result (record node { item = w }))) c.key.ensures.value
    (written-item nodes c.key.result node w c.index_mut-node.ensures.value))).sound

pub returns : goal.returns
returns g c =
    let nodes = c.self.inside.nodes in
    let ends = c.self.inside.ends.items in
    let node = c.index_mut-node.result.now in
    let live = live-in nodes ends c.self.invariant c.args.self.now c.args.link c.requires.0 c.requires.1 c.self.view_is c.requires.2 in (
      (
        refl,
        λ w.
            let changes =
            subst (λ k. ChangesNode (λ n. record n { item = w }) nodes k (with_value nodes c.key.result (record node { item = w }))) c.key.ensures.value
            (written-item nodes c.key.result node w c.index_mut-node.ensures.value) in
            let done = replaced nodes _ ends c.self.invariant c.args.link c.requires.0 c.requires.1 w live changes in
            let lists = shown-is (with_value nodes c.key.result (record node { item = w })) ends done.sound ∙ done.are
            ∙ ap (with_item c.args.link w) (sym (lists-are nodes ends c.args.self.now c.self.invariant c.self.view_is)) in
            let spare = ap (λ n. nodes.capacity - n) changes.count ∙ ap (λ (l : Lists g.row.T.Denot). l.spare) c.self.view_is in
            cc,
      ),
      record {
        writes_back = tt;
        item = λ list item live.
            item-is nodes ends c.self.invariant c.args.link list item node
            (live-in nodes ends c.self.invariant c.args.self.now c.args.link list item c.self.view_is live)
            (ap (get nodes) (sym c.key.ensures.value) ∙ c.index_mut-node.ensures.value);
      },
    )
