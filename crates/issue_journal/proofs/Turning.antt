-- A turn that was written: what it needs, and that the issue stands afterwards.
use Rattle.std.proofs.Common.{All, ◌≡◌, ℕ, suc, ◌+◌, ◌<◌, ◌≤◌, ◌^◌, true, List, [], ◌∷◌, ◌++◌, length, map, max, drop, None, refl, sym, ap, subst, ◌∙◌, arith}
use Rattle.std.proofs.lemmas.Bool.Decides.{nat_tests}
use Rattle.std.proofs.lemmas.List.{length-append, length-map, length_push, map-append}
use Rattle.std.proofs.lemmas.List.Elements.{All-append, All-cons, All-nil}
use Rattle.std.proofs.lemmas.List.Sums.{count_by-le-length, length-filter}
use Rattle.mkt_base.specs.declared.event.Entry.{Entry}
use Rattle.mkt_base.specs.declared.event.Event.{Event}
use Rattle.mkt_base.specs.declared.journal.NodeState.{NodeState}
use Rattle.record_codec.specs.Entry.{IsEntry, spelling}
use Rattle.node_rules.specs.Nodes.{has_synchronised, node_step, up}
use Rattle.mirror.specs.Mirrored.{Mirrors}
use Rattle.mirror.specs.Replicas.{Replica, Replicas, states}
use Rattle.mirror.specs.Calls.{Keeps}
use Rattle.turn_writer.specs.Losses.{AreLosses, GrewBy, lose, loss_at, losses_from, times, with_lost}
use Rattle.turn_writer.specs.Writing.{HasTurnRoom, Written, asks, nodes_behind, turn_entries}
use Rattle.issue_machine.specs.History.{FollowOn, Follows, IsHistory, entries_by, is_by, nodes_after}
use Rattle.issue_machine.specs.Journal.{IsEventOf}
use Rattle.issue_machine.proofs.HistoryLemmas.{follow-more}
use Rattle.issue_journal.specs.Inside.{WorkView, issue_of, worked}
use Rattle.issue_journal.specs.Issue.{IsIssueNow, IsRunning, IssueNow, recorded}
use Rattle.issue_journal.specs.Turned.{HasPlace}
use Rattle.issue_journal.proofs.Counting.{covered-more, recorded-few, recorded-since, recorded-turn}
use Rattle.issue_journal.proofs.Following.{entry-follows, nodes-losses, nodes-more, turn-is, turn-losses-follow}
use Rattle.issue_journal.proofs.Losing.{up-losses, up-most, up-step}

pub entries_by-few : (caller : ℕ) (journal : List Entry) → length (entries_by caller journal) ≤ length journal
entries_by-few caller journal = omega (arith, length-filter (is_by caller) journal, count_by-le-length (is_by caller) journal)

pub length-losses : (ks : List ℕ) (place own : ℕ) → length (losses_from place own ks) ≡ length ks
length-losses [] place own = refl
length-losses (k ∷ ks) place own = ap suc (length-losses ks (place + 1) (own + 1))

-- losses have numbers of their types
pub losses-numbers : (ks : List ℕ) (nodes : List NodeState) (place own : ℕ) → AreLosses nodes ks → place + length ks < 2 ^ 64 → own + length ks < 2 ^ 32 → All IsEntry (losses_from place own ks)
losses-numbers [] nodes place own are places owns = All-nil IsEntry
losses-numbers (k ∷ ks) nodes place own are places owns =
    let whole : length (k ∷ ks) ≡ length ks + 1 = omega arith in
    All-cons IsEntry (loss_at place own k) (losses_from (place + 1) (own + 1) ks)
    (record { caller = omega arith; own = omega (arith, owns, whole); place = omega (arith, places, whole); event = are.0 })
    (losses-numbers ks (lose k nodes) (place + 1) (own + 1) are.2 (omega (arith, places, whole)) (omega (arith, owns, whole)))

pub most-within : (a b c d : ℕ) → c ≤ max a b → a ≤ d → b ≤ d → c ≤ d
most-within a b c d least one two = grind (arith, nat_tests)

-- what was room stays room
pub roomy-node : (capacity n : ℕ) (old new : Replica) → Keeps n old new → capacity ≤ length old.contents + old.spare → capacity ≤ length new.contents + new.spare
roomy-node capacity n old new keeps room = omega (arith, keeps.room, room)

module _ (w : WorkView) (m : Replicas) (issue place : ℕ) (stands : IsIssueNow (issue_of w m None issue place)) where
  abbrev now : IssueNow
  now = issue_of w m None issue place

  abbrev system : ℕ
  system = length (entries_by 0 w.entries)

  running : IsRunning now
  running = stands.stands

  pub length-is : m.length ≡ length w.entries
  length-is = running.mirrors.entries_are ∙ length-map w.entries spelling

  pub entries-few : length w.entries ≤ 100000000
  entries-few = omega (arith, stands.within, stands.small)

  pub system-few : system + 3 < 2 ^ 32
  system-few = omega (arith, entries_by-few 0 w.entries, entries-few)

  pub nodes-few : m.length + 4 < 2 ^ 64
  nodes-few = omega (arith, length-is, entries-few)

  pub up-is : up (states m) ≡ up (nodes_after w.entries)
  up-is = ap up running.states_are

  pub turn-room : (event : Event) → HasPlace event now → HasTurnRoom event m
  turn-room event fits = record { capacity = w.capacity; roomy = stands.roomy; fits = omega (arith, fits, up-is, length-is) }

  module _ (e : Entry) (place_is : e.place ≡ length w.entries) (caller : (1 ≤ e.caller.0) × (e.caller.0 < 17))
      (own : e.own ≡ length (entries_by e.caller.0 w.entries)) (event : IsEventOf w.participants e.event) where
    abbrev after : List NodeState
    after = node_step (length w.entries) e.caller.0 e.event (nodes_after w.entries)

    pub after-is : nodes_behind e m ≡ after
    after-is =
        ap (λ (n : ℕ). node_step n e.caller.0 e.event (states m)) length-is
        ∙ ap (λ (ns : List NodeState). node_step (length w.entries) e.caller.0 e.event ns) running.states_are

    module _ (m' : Replicas) (lost : List ℕ) (fits : HasPlace e.event now) (numbers : IsEntry e) (written : Written e system lost m m') where
      abbrev grown : List Entry
      grown = w.entries ++ turn_entries e system lost

      are : AreLosses after lost
      are = subst (λ (ns : List NodeState). AreLosses ns lost) after-is written.losses

      states-are : states m' ≡ with_lost lost after
      states-are = written.states_are ∙ ap (with_lost lost) after-is

      some : has_synchronised (with_lost lost after) ≡ true
      some = ap has_synchronised (sym states-are) ∙ written.some

      pub turn-follows : Follows w.participants w.entries e
      turn-follows = entry-follows w.participants w.entries e lost place_is caller own event are some

      pub losses-behind : FollowOn w.participants (w.entries ++ e ∷ []) (losses_from (length (w.entries ++ e ∷ [])) (length (entries_by 0 (w.entries ++ e ∷ []))) lost)
      losses-behind = turn-losses-follow w.participants w.entries e lost place_is caller own event are some

      pub grown-is : (w.entries ++ e ∷ []) ++ losses_from (length (w.entries ++ e ∷ [])) (length (entries_by 0 (w.entries ++ e ∷ []))) lost ≡ grown
      grown-is = turn-is w.participants w.entries e lost place_is caller own event are some

      up-left : up (states m') + length lost ≤ up (nodes_after w.entries) + asks e.event
      up-left = omega (arith, up-losses lost after are, up-step (length w.entries) e.caller.0 e.event (nodes_after w.entries), ap up states-are)

      pub lost-few : length lost ≤ 3
      lost-few = omega (arith, up-losses lost after are, up-most after)

      pub room-behind : length (w.entries ++ e ∷ []) + length lost ≤ w.capacity
      room-behind = omega (arith, up-left, fits, length_push w.entries e)

      length-grown : length grown ≡ length w.entries + 1 + length lost
      length-grown =
          let one : length grown ≡ length w.entries + length (turn_entries e system lost) = length-append w.entries (turn_entries e system lost) in
          let two : length (turn_entries e system lost) ≡ length (losses_from (e.place + 1) system lost) + 1 = omega arith in
          omega (arith, one, two, length-losses lost (e.place + 1) system)

      length-after : m'.length ≡ length grown
      length-after = omega (arith, length-grown, written.entries, length-is)

      history-grown : IsHistory w.participants grown
      history-grown =
          subst (IsHistory w.participants) grown-is
          (follow-more w.participants [] (w.entries ++ e ∷ []) _ (follow-more w.participants [] w.entries (e ∷ []) stands.history (turn-follows, tt)) losses-behind)

      numbers-grown : All IsEntry grown
      numbers-grown =
          All-append IsEntry w.entries (turn_entries e system lost) stands.numbers
          (All-cons IsEntry e (losses_from (e.place + 1) system lost) numbers
          (losses-numbers lost after (e.place + 1) system are (omega (arith, place_is, entries-few, lost-few)) (omega (arith, system-few, lost-few))))

      nodes-grown : states m' ≡ nodes_after grown
      nodes-grown =
          states-are ∙ ap (with_lost lost) (sym (nodes-more w.entries e))
          ∙ sym (nodes-losses lost (w.entries ++ e ∷ []) (length (w.entries ++ e ∷ [])) (length (entries_by 0 (w.entries ++ e ∷ []))))
          ∙ ap nodes_after grown-is

      within-grown : length grown ≤ w.capacity
      within-grown = omega (arith, length-grown, up-left, fits)

      few-grown : length grown ≤ 100000000
      few-grown = omega (arith, within-grown, stands.small)

      covered : (k old new : ℕ) → recorded k (drop place w.entries) ≤ old → GrewBy (times k lost) old new → recorded k (drop place grown) ≤ new
      covered k old new before grew =
          covered-more (recorded k (drop place w.entries)) (times k lost) (recorded k (drop place grown)) old new
          (recorded-since k place w.entries (turn_entries e system lost) (times k lost) stands.place (recorded-turn k e system lost caller.0))
          (omega (arith, recorded-few k place grown, few-grown)) before grew

      most-grown : (old new : Replica) → Keeps m'.length old new → old.most ≤ length w.entries → new.most ≤ length grown
      most-grown old new keeps before = most-within old.most m'.length new.most (length grown) keeps.most (omega (arith, before, length-grown)) (omega (arith, length-after))

      mirrors-grown : Mirrors (map spelling grown) m'
      mirrors-grown =
          subst (λ (js : List (List ℕ)). Mirrors js m') (sym (map-append spelling w.entries (turn_entries e system lost)))
          (written.mirrors (map spelling w.entries) running.mirrors)

      running-after : IsRunning (issue_of (worked (turn_entries e system lost) w) m' None issue place)
      running-after = record {
        mirrors = mirrors-grown;
        states_are = nodes-grown;
        some = written.some;
        fits = omega (arith, length-grown, up-left, fits);
        first_most = most-grown m.first m'.first written.keeps.first running.first_most;
        second_most = most-grown m.second m'.second written.keeps.second running.second_most;
        third_most = most-grown m.third m'.third written.keeps.third running.third_most;
      }

      pub turn-stands : IsIssueNow (issue_of (worked (turn_entries e system lost) w) m' None issue place)
      turn-stands = record {
        history = history-grown;
        numbers = numbers-grown;
        place = omega (arith, stands.place, length-grown);
        within = within-grown;
        small = stands.small;
        first_covered = covered 0 m.first.faults m'.first.faults stands.first_covered written.grew.first;
        second_covered = covered 1 m.second.faults m'.second.faults stands.second_covered written.grew.second;
        third_covered = covered 2 m.third.faults m'.third.faults stands.third_covered written.grew.third;
        roomy = record {
          first = roomy-node w.capacity m'.length m.first m'.first written.keeps.first stands.roomy.first;
          second = roomy-node w.capacity m'.length m.second m'.second written.keeps.second stands.roomy.second;
          third = roomy-node w.capacity m'.length m.third m'.third written.keeps.third stands.roomy.third;
        };
        labels = record { first = refl; second = refl; third = refl };
        stands = running-after;
      }
