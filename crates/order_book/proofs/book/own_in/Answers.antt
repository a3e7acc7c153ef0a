use Rattle.std.proofs.Common.{◌≡◌, ◌+◌, eqb, true, false, Some, drop, sym, ◌∙◌, ap, arith}
use Rattle.std.specs.List.{filter, find}
use Rattle.std.specs.Option.{option_map}
use Rattle.order_list.specs.Lists.{Linked, first_link, is_at, list_at}
use Rattle.book_law.specs.BookView.{is_of}
use Rattle.order_book.specs.Linked.{owner_at, owner_key}
use Rattle.order_book.specs.declared.held.Held.{Held}
use Rattle.order_book.proofs.FiledLemmas.{find-first, find-later}
use Rattle.order_book.proofs.OwnLemmas.{at-end, at-node, past-end}
use Rattle.order_book.proofs.book.own_in.Goals as goal

pub item-handle-requires : goal.item-handle-requires
item-handle-requires c =
    let b = c.requires.filed.0 in
    let n = at-node (owner_key b) owner_at c.args.owners.now.lists (list_at c.args.held.now.lists 0) c.args.list c.requires.apart c.requires.filed.1 c.requires.within c.loop-step._step c.loop-step.place c.in-Some.link c.loop-step.invariant.place c.in-Some.is in
    (c.args.list, n.node.link, n.filed)

pub item-requires : goal.item-requires
item-requires c =
    let b = c.requires.filed.0 in
    let n = at-node (owner_key b) owner_at c.args.owners.now.lists (list_at c.args.held.now.lists 0) c.args.list c.requires.apart c.requires.filed.1 c.requires.within c.loop-step._step c.loop-step.place c.in-Some.link c.loop-step.invariant.place c.in-Some.is in
    (0, n.node.item, record { within = omega (arith, c.requires.one); found = ap (λ h. find (is_at h) (list_at c.args.held.now.lists 0)) (c.link.ensures ∙ c.item-handle.ensures c.args.list n.node.link n.filed) ∙ n.found ∙ ap (λ h. Some (record { link = h; item = n.node.item })) (sym (c.link.ensures ∙ c.item-handle.ensures c.args.list n.node.link n.filed)) })

pub next-place-requires : goal.next-place-requires
next-place-requires c =
    let b = c.requires.filed.0 in
    let n = at-node (owner_key b) owner_at c.args.owners.now.lists (list_at c.args.held.now.lists 0) c.args.list c.requires.apart c.requires.filed.1 c.requires.within c.loop-step._step c.loop-step.place c.in-Some.link c.loop-step.invariant.place c.in-Some.is in
    (c.args.list, n.node.link, n.filed)

pub returns-in_default : goal.returns-in_default
returns-in_default c b is =
    let key = λ (n : Linked Held). eqb (owner_key b n.item.order) c.args.list in
    let own = λ (n : Linked Held). is_of c.args.caller c.args.own n.item.order in
    let ended = at-end (owner_key b) owner_at c.args.owners.now.lists (list_at c.args.held.now.lists 0) c.args.list c.requires.apart is c.requires.within c.loop-step._step c.loop-step.place c.loop-step.invariant.place c.in_default.is in
    ap (option_map (λ (n : Linked Held). n.link)) (sym (ap (find own) ended) ∙ c.loop-step.invariant.left b is)

pub returns-then-is_own : goal.returns-then-is_own
returns-then-is_own c b is =
    let own = λ (n : Linked Held). is_of c.args.caller c.args.own n.item.order in
    let n = at-node (owner_key b) owner_at c.args.owners.now.lists (list_at c.args.held.now.lists 0) c.args.list c.requires.apart is c.requires.within c.loop-step._step c.loop-step.place c.in-Some.link c.loop-step.invariant.place c.in-Some.is in
    let handle = c.item-handle.ensures c.args.list n.node.link n.filed in
    let read = c.item.ensures 0 n.node.item (record { within = omega (arith, c.requires.one); found = ap (λ h. find (is_at h) (list_at c.args.held.now.lists 0)) (c.link.ensures ∙ handle) ∙ n.found ∙ ap (λ h. Some (record { link = h; item = n.node.item })) (sym (c.link.ensures ∙ handle)) }) in
    let mine : is_of c.args.caller c.args.own n.node.item.order ≡ true =
    sym (ap (λ (x : Held). is_of c.args.caller c.args.own x.order) read) ∙ sym c.is_own.ensures ∙ c.if-is_own.true in
    ap (λ h. Some h) handle
    ∙ ap (option_map (λ (m : Linked Held). m.link))
    (sym (find-first own n.node (drop (c.loop-step._step + 1) (filter (λ (m : Linked Held). eqb (owner_key b m.item.order) c.args.list) (list_at c.args.held.now.lists 0))) mine)
    ∙ sym (ap (find own) n.here) ∙ c.loop-step.invariant.left b is)

pub loop-step-preserved : goal.loop-step-preserved
loop-step-preserved c =
    record {
      place =
          let b = c.requires.filed.0 in
          let n = at-node (owner_key b) owner_at c.args.owners.now.lists (list_at c.args.held.now.lists 0) c.args.list c.requires.apart c.requires.filed.1 c.requires.within c.loop-step._step c.loop-step.place c.in-Some.link c.loop-step.invariant.place c.in-Some.is in
          c.next-place.ensures.exact c.args.list n.node.link n.filed ∙ ap first_link n.next;
      left = λ b is.
          let own = λ (n : Linked Held). is_of c.args.caller c.args.own n.item.order in
          let n = at-node (owner_key b) owner_at c.args.owners.now.lists (list_at c.args.held.now.lists 0) c.args.list c.requires.apart is c.requires.within c.loop-step._step c.loop-step.place c.in-Some.link c.loop-step.invariant.place c.in-Some.is in
          let handle = c.item-handle.ensures c.args.list n.node.link n.filed in
          let read = c.item.ensures 0 n.node.item (record { within = omega (arith, c.requires.one); found = ap (λ h. find (is_at h) (list_at c.args.held.now.lists 0)) (c.link.ensures ∙ handle) ∙ n.found ∙ ap (λ h. Some (record { link = h; item = n.node.item })) (sym (c.link.ensures ∙ handle)) }) in
          let other : is_of c.args.caller c.args.own n.node.item.order ≡ false =
          sym (ap (λ (x : Held). is_of c.args.caller c.args.own x.order) read) ∙ sym c.is_own.ensures ∙ c.if-is_own.false in
          sym (find-later own n.node (drop (c.loop-step._step + 1) (filter (λ (m : Linked Held). eqb (owner_key b m.item.order) c.args.list) (list_at c.args.held.now.lists 0))) other)
          ∙ sym (ap (find own) n.here) ∙ c.loop-step.invariant.left b is;
    }

pub returns : goal.returns
returns c b is =
    let own = λ (n : Linked Held). is_of c.args.caller c.args.own n.item.order in
    let ended = past-end (owner_key b) owner_at c.args.owners.now.lists (list_at c.args.held.now.lists 0) c.args.list c.requires.apart is c.requires.within c.loop-step._step (omega (arith, c.requires.few)) in
    ap (option_map (λ (n : Linked Held). n.link)) (sym (ap (find own) ended) ∙ c.loop-step.invariant.left b is)
