use Rattle.std.proofs.Common.{◌≡◌, ◌∙◌, ◌<◌, ℕ, [], ◌∷◌, ◌++◌, ap, arith, get_or, length, rules}
use Rattle.mkt_base.specs.declared.event.Entry.{Entry}
use Rattle.issue_machine.specs.History.{entries_by}
use Rattle.audit.specs.Told.{entry_at}
use Rattle.audit.proofs.KeptLemmas.{kept-own, kept-push, own-few}
use Rattle.audit.proofs.journal.Journal.enter.Goals as goal

pub overflow_add-self : goal.overflow_add-self
overflow_add-self c =
    let j = c.self.inside in
    let below : c.from.result < 17 = omega (arith, c.from.ensures, c.requires.caller) in
    omega (arith, kept-own j.entries.items j.nodes j.next_own c.from.result 0 c.self.invariant below, own-few c.from.result j.entries.items, c.self.invariant.few)

pub invariant_of-self-2 : goal.invariant_of-self-2
invariant_of-self-2 c =
    let j = c.self.inside in
    let items = j.entries.items in
    let caller = c.args.caller in
    let event = c.args.event.now in
    let room : length items < 100000000 = search (rules, c.requires.room, c.self.view_is) in
    let size : c.len-place.result ≡ length items = search (rules, c.len-place.ensures) in
    let own_is : get_or j.next_own c.from.result 0 ≡ length (entries_by caller.0 items) =
    ap (λ k. get_or j.next_own k 0) c.from.ensures ∙ kept-own items j.nodes j.next_own caller.0 0 c.self.invariant c.requires.caller in
    let make : ℕ → ℕ → Entry = λ place own. record { place = place; caller = caller; own = own; event = event } in
    let pushed : c.push.new.self.items ≡ items ++ entry_at items caller event ∷ [] =
    c.in_ok-push.ensures.items ∙ ap (λ p. items ++ make p (get_or j.next_own c.from.result 0) ∷ []) size ∙ ap (λ o. items ++ make (length items) o ∷ []) own_is in
    rw (pushed, c.node_step-nodes.ensures, size, c.from-2.ensures)
    (kept-push items j.nodes j.next_own caller event (get_or j.next_own c.from.result 0) c.self.invariant room own_is)

pub returns : goal.returns
returns c =
    let j = c.self.inside in
    let items = j.entries.items in
    let caller = c.args.caller in
    let event = c.args.event.now in
    let size : c.len-place.result ≡ length items = search (rules, c.len-place.ensures) in
    let own_is : get_or j.next_own c.from.result 0 ≡ length (entries_by caller.0 items) =
    ap (λ k. get_or j.next_own k 0) c.from.ensures ∙ kept-own items j.nodes j.next_own caller.0 0 c.self.invariant c.requires.caller in
    let make : ℕ → ℕ → Entry = λ place own. record { place = place; caller = caller; own = own; event = event } in
    let same : items ≡ c.args.self.now = search (rules, c.self.view_is) in
    c.in_ok-push.ensures.items ∙ ap (λ p. items ++ make p (get_or j.next_own c.from.result 0) ∷ []) size ∙ ap (λ o. items ++ make (length items) o ∷ []) own_is
    ∙ ap (λ xs. xs ++ entry_at xs caller event ∷ []) same
