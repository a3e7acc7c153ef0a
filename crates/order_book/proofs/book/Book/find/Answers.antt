use Rattle.std.proofs.Common.{◌∙◌, ap, eqb}
use Rattle.std.specs.List.{filter, find}
use Rattle.std.specs.Option.{option_map}
use Rattle.order_list.specs.Lists.{Linked, list_at}
use Rattle.book_law.specs.BookView.{BookView, is_of}
use Rattle.order_book.specs.Fields.{AreFields, book_of}
use Rattle.order_book.specs.Linked.{owner_key}
use Rattle.order_book.specs.declared.held.Held.{Held}
use Rattle.order_book.proofs.OwnLemmas.{own-found}
use Rattle.order_book.proofs.book.Book.find.Goals as goal

pub returns : goal.returns
unfolding AreFields book_of
returns c =
    let f = c.self.inside in
    let ns = list_at f.held.lists 0 in
    c.own_in.ensures f.buckets c.self.invariant.holds.by_owner
    ∙ ap (λ k. option_map (λ (n : Linked Held). n.link) (find (λ (n : Linked Held). is_of c.args.caller c.args.own n.item.order) (filter (λ (n : Linked Held). eqb (owner_key f.buckets n.item.order) k) ns))) c.bucket-list.ensures.exact
    ∙ own-found f.buckets c.args.own c.args.caller ns
    ∙ ap (λ (v : BookView). option_map (λ s. s.handle) (find (λ s. is_of c.args.caller c.args.own s.order) v.slots)) c.self.view_is
