-- What is kept beside an open journal.
use Rattle.std.proofs.Common.{◌≡◌, ℕ, ◌+◌, ◌<◌, ◌≤◌, List, [], ◌∷◌, ◌++◌, get_or, length, refl, sym, ap, ◌∙◌, arith}
use Rattle.std.specs.List.{slice_get, slice_set}
use Rattle.std.proofs.lemmas.List.{length_push}
use Rattle.std.proofs.lemmas.List.Sums.{count_by-le-length, length-filter}
use Rattle.std.proofs.lemmas.Option.{get_or_from_slice_get}
use Rattle.mkt_base.specs.declared.event.Entry.{Entry}
use Rattle.mkt_base.specs.declared.event.Event.{Event}
use Rattle.mkt_base.specs.declared.journal.NodeState.{NodeState}
use Rattle.mkt_base.specs.declared.units.Caller.{Caller}
use Rattle.node_rules.specs.Nodes.{all_synchronised, node_step}
use Rattle.issue_machine.specs.History.{entries_by, is_by, nodes_after}
use Rattle.issue_machine.specs.Journal.{no_own}
use Rattle.issue_machine.proofs.HistoryLemmas.{owns-none, owns-push}
use Rattle.audit.specs.Kept.{IsKept}
use Rattle.audit.specs.Told.{entry_at}
use Rattle.audit.proofs.FollowLemmas.{nodes-push}

-- before the first entry
pub kept-none : IsKept [] all_synchronised no_own
unfolding nodes_after
kept-none = record { few = omega arith; nodes_are = refl; owns = owns-none }

-- the next own number of a caller
pub kept-own : (journal : List Entry) (nodes : List NodeState) (owns : List ℕ) (c d : ℕ) → IsKept journal nodes owns → c < 17 → get_or owns c d ≡ length (entries_by c journal)
kept-own journal nodes owns c d kept below = get_or_from_slice_get owns c (length (entries_by c journal)) d (kept.owns c below)

-- it is at most the number of entries
pub own-few : (c : ℕ) (journal : List Entry) → length (entries_by c journal) ≤ length journal
own-few c journal = omega (arith, length-filter (is_by c) journal, count_by-le-length (is_by c) journal)

-- and after an entry
pub kept-push : (journal : List Entry) (nodes : List NodeState) (owns : List ℕ) (caller : Caller) (event : Event) (own : ℕ) → IsKept journal nodes owns → length journal < 100000000
    → own ≡ length (entries_by caller.0 journal)
    → IsKept (journal ++ entry_at journal caller event ∷ []) (node_step (length journal) caller.0 event nodes) (slice_set owns caller.0 (own + 1))
kept-push journal nodes owns caller event own kept few own_is =
    let e = entry_at journal caller event in
    record {
      few = omega (arith, length_push journal e, few);
      nodes_are = ap (λ ns. node_step (length journal) caller.0 event ns) kept.nodes_are ∙ sym (nodes-push journal e);
      owns = λ c below. ap (λ n. slice_get (slice_set owns caller.0 (n + 1)) c) own_is ∙ owns-push owns journal e refl kept.owns c below;
    }

-- the entry that is made is the next one
pub entry-made : (journal : List Entry) (caller : Caller) (event : Event) (own : ℕ) → own ≡ length (entries_by caller.0 journal)
    → let made : Entry = record { place = length journal; caller = caller; own = own; event = event } in made ≡ entry_at journal caller event
entry-made journal caller event own own_is =
    let make : ℕ → Entry = λ n. record { place = length journal; caller = caller; own = n; event = event } in ap make own_is
