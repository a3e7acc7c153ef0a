-- A turn for which no node was left: the issue stands halted.
use Rattle.std.proofs.Common.{◌≡◌, ℕ, ◌+◌, ◌<◌, ◌≤◌, true, List, length, drop, Some, None, refl, sym, ap, ◌∙◌, arith}
use Rattle.mkt_base.specs.declared.event.Entry.{Entry}
use Rattle.mkt_base.specs.declared.journal.Halt.{Halt}
use Rattle.mkt_base.specs.declared.journal.NodeState.{NodeState}
use Rattle.mkt_base.specs.declared.journal.NodeState.TheVariants.{Lost, Joining, Synchronised}
use Rattle.mkt_io.specs.Faults.{Rises}
use Rattle.node_rules.specs.Nodes.{has_synchronised, is_synchronised, state_at}
use Rattle.mirror.specs.Replicas.{Replica, Replicas, states, wiped}
use Rattle.mirror.specs.Calls.{Keeps}
use Rattle.turn_writer.specs.Writing.{FailedBut, NoneLeft}
use Rattle.issue_machine.specs.History.{entries_by, nodes_after}
use Rattle.issue_machine.specs.Journal.{IsEventOf}
use Rattle.issue_journal.specs.Inside.{WorkView, all_wiped, issue_of}
use Rattle.issue_journal.specs.Issue.{FailedMore, IsEmptied, IsHalted, IsIssueNow, IsQuiet, IsRunning, IssueNow, recorded}
use Rattle.issue_journal.proofs.Counting.{recorded-few, rises-above}
use Rattle.issue_journal.proofs.Turning.{after-is, entries-few, length-is, most-within}

pub is-synchronised : (s : NodeState) → is_synchronised s ≡ true → s ≡ Synchronised
is-synchronised Lost e = absurd (cc)
is-synchronised (Joining n) e = absurd (cc)
is-synchronised Synchronised e = refl

wiped-keeps : (n : ℕ) (old new : Replica) → Keeps n old new → Keeps n old (wiped new)
wiped-keeps n old new keeps = record { label = keeps.label; room = omega (arith, keeps.room); faults = keeps.faults; most = keeps.most }

-- what is told of the nodes stays where they are wiped afterwards
pub none-left-wiped : (e : Entry) (m m' : Replicas) → NoneLeft e m m' → NoneLeft e m (all_wiped m')
none-left-wiped e m m' left = record {
  first = left.first;
  second = left.second;
  third = left.third;
  quiet = λ none. left.quiet (record { first = none.first; second = none.second; third = none.third });
  keeps = record {
    first = wiped-keeps (m.length + 3) m.first m'.first left.keeps.first;
    second = wiped-keeps (m.length + 3) m.second m'.second left.keeps.second;
    third = wiped-keeps (m.length + 3) m.third m'.third left.keeps.third;
  };
}

module _ (w : WorkView) (m : Replicas) (issue place : ℕ) (stands : IsIssueNow (issue_of w m None issue place)) (e : Entry) (place_is : e.place ≡ length w.entries)
    (caller : (1 ≤ e.caller.0) × (e.caller.0 < 17)) (own : e.own ≡ length (entries_by e.caller.0 w.entries)) (event : IsEventOf w.participants e.event)
    (m' : Replicas) (left : NoneLeft e m m') where
  abbrev halt : Halt
  halt = record { caller = e.caller; own = e.own; event = e.event }

  abbrev halted : IssueNow
  halted = issue_of w (all_wiped m') (Some halt) issue place

  running : IsRunning (issue_of w m None issue place)
  running = stands.stands

  abbrev since : ℕ → ℕ
  since k = recorded k (drop place w.entries)

  since-few : (k : ℕ) → since k ≤ 100000000
  since-few k = omega (arith, recorded-few k place w.entries, entries-few w m issue place stands)

  emptied : (old new : Replica) → Keeps (m.length + 3) old new → old.most ≤ length w.entries → IsEmptied halted (wiped new)
  emptied old new keeps before = record {
    state = refl;
    contents = refl;
    most = most-within old.most (m.length + 3) new.most (length w.entries + 3) keeps.most (omega (arith, before)) (omega (arith, length-is w m issue place stands));
  }

  failed : (k : ℕ) (s : NodeState) (old new : Replica) → state_at (nodes_after w.entries) k ≡ s → old.state ≡ s → since k ≤ old.faults → FailedBut e.event k old new → FailedMore halt halted k (wiped new)
  failed k s old new at is covered but sync goes =
      rises-above (since k) old.faults new.faults (since-few k) covered (but (is ∙ is-synchronised s (sym (ap is_synchronised at) ∙ sync)) goes)

  still : (k : ℕ) (old new : Replica) → since k ≤ old.faults → IsQuiet halted k (wiped new) → Rises old.faults new.faults → ⊥
  still k old new covered quiet rises = quiet (rises-above (since k) old.faults new.faults (since-few k) covered rises)

  at : (k : ℕ) → state_at (nodes_after w.entries) k ≡ state_at (states m) k
  at k = ap (λ (ns : List NodeState). state_at ns k) (sym running.states_are)

  is-halted : IsHalted halt halted
  is-halted = record {
    caller = caller;
    own = own;
    event = event;
    first = emptied m.first m'.first left.keeps.first running.first_most;
    second = emptied m.second m'.second left.keeps.second running.second_most;
    third = emptied m.third m'.third left.keeps.third running.third_most;
    first_failed = failed 0 m.first.state m.first m'.first (at 0) refl stands.first_covered left.first;
    second_failed = failed 1 m.second.state m.second m'.second (at 1) refl stands.second_covered left.second;
    third_failed = failed 2 m.third.state m.third m'.third (at 2) refl stands.third_covered left.third;
    by_event = λ a b c. ap has_synchronised (sym (after-is w m issue place stands e place_is caller own event))
        ∙ left.quiet (record {
          first = still 0 m.first m'.first stands.first_covered a;
          second = still 1 m.second m'.second stands.second_covered b;
          third = still 2 m.third m'.third stands.third_covered c;
        });
  }

  roomy : (old new : Replica) → Keeps (m.length + 3) old new → w.capacity ≤ length old.contents + old.spare → w.capacity ≤ length (wiped new).contents + (wiped new).spare
  roomy old new keeps room = omega (arith, keeps.room, room)

  covered : (k : ℕ) (old new : Replica) → Keeps (m.length + 3) old new → since k ≤ old.faults → since k ≤ new.faults
  covered k old new keeps before = omega (arith, keeps.faults, before)

  pub halt-stands : IsIssueNow halted
  halt-stands = record {
    history = stands.history;
    numbers = stands.numbers;
    place = stands.place;
    within = stands.within;
    small = stands.small;
    first_covered = covered 0 m.first m'.first left.keeps.first stands.first_covered;
    second_covered = covered 1 m.second m'.second left.keeps.second stands.second_covered;
    third_covered = covered 2 m.third m'.third left.keeps.third stands.third_covered;
    roomy = record {
      first = roomy m.first m'.first left.keeps.first stands.roomy.first;
      second = roomy m.second m'.second left.keeps.second stands.roomy.second;
      third = roomy m.third m'.third left.keeps.third stands.roomy.third;
    };
    labels = record { first = refl; second = refl; third = refl };
    stands = is-halted;
  }
