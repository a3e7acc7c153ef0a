-- The issue that is made of the nodes that were read.
use Rattle.std.proofs.Common.{All, ◌≡◌, ℕ, ◌+◌, ◌==◌, ◌<◌, ◌≤◌, ◌^◌, Bool, true, false, List, [], ◌∷◌, ◌++◌, length, map, max, drop, None, refl, sym, ap, subst, ◌∙◌, append-nil, arith, if◌then◌else◌, cond}
use Rattle.std.proofs.lemmas.Bool.Decides.{nat_tests}
use Rattle.std.proofs.lemmas.List.{length-append, length-map, map-append}
use Rattle.std.proofs.lemmas.List.Elements.{All-append}
use Rattle.std.proofs.lemmas.List.Sums.{count_by-le-length, sum_by-append}
use Rattle.std.proofs.Math.Seq.{drop-append_seam}
use Rattle.mkt_base.specs.declared.event.Entry.{Entry}
use Rattle.mkt_base.specs.declared.journal.NodeState.{NodeState}
use Rattle.record_codec.specs.Entry.{IsEntry, spelling}
use Rattle.node_rules.specs.Nodes.{has_synchronised, up}
use Rattle.mirror.specs.Calls.{Keeps}
use Rattle.mirror.specs.Mirrored.{Mirrors}
use Rattle.mirror.specs.Replicas.{Replica, Replicas, states}
use Rattle.turn_writer.specs.Losses.{AreLosses, Grew, GrewBy, lose, losses_from, times, with_lost}
use Rattle.turn_writer.specs.Writing.{HasLossRoom, IsRoomy, LossesWritten}
use Rattle.issue_machine.specs.History.{FollowOn, IsHistory, entries_by, nodes_after}
use Rattle.issue_machine.proofs.HistoryLemmas.{follow-more}
use Rattle.issue_journal.specs.Inside.{WorkView, issue_of, losses_at, worked}
use Rattle.issue_journal.specs.Issue.{IsIssueNow, IsRunning, recorded}
use Rattle.issue_journal.specs.Reading.{WasLeft, met}
use Rattle.issue_journal.proofs.Adopting.{left-state, met-are, met-lost}
use Rattle.issue_journal.proofs.Counting.{recorded-losses}
use Rattle.issue_journal.proofs.Following.{losses-follow, nodes-losses}
use Rattle.issue_journal.proofs.Losing.{up-losses, up-most}
use Rattle.issue_journal.proofs.Turning.{entries_by-few, length-losses, losses-numbers, most-within}

-- ---- lists of losses

losses-append : (xs ys : List ℕ) (nodes : List NodeState) → AreLosses nodes xs → AreLosses (with_lost xs nodes) ys → AreLosses nodes (xs ++ ys)
losses-append [] ys nodes are more = more
losses-append (x ∷ xs) ys nodes are more = (are.0, are.1, losses-append xs ys (lose x nodes) are.2 more)

with-append : (xs ys : List ℕ) (nodes : List NodeState) → with_lost (xs ++ ys) nodes ≡ with_lost ys (with_lost xs nodes)
with-append [] ys nodes = refl
with-append (x ∷ xs) ys nodes = with-append xs ys (lose x nodes)

times-append : (k : ℕ) (xs ys : List ℕ) → times k (xs ++ ys) ≡ times k xs + times k ys
times-append k xs ys = sum_by-append (λ (j : ℕ). cond {A = ℕ} (j == k) 1 0) xs ys

grew-then : (a b old mid new : ℕ) → GrewBy a old mid → GrewBy b mid new → GrewBy (a + b) old new
grew-then a b old mid new one two = omega (arith, one, two)

times-most : (k : ℕ) (ks : List ℕ) → times k ks ≤ length ks
times-most k ks = count_by-le-length (λ (j : ℕ). j == k) ks

times-first : (a b c : Bool) → times 0 (met a b c) ≡ (if a then 1 else 0)
times-first false false false = refl
times-first false false true = refl
times-first false true false = refl
times-first false true true = refl
times-first true false false = refl
times-first true false true = refl
times-first true true false = refl
times-first true true true = refl

times-second : (a b c : Bool) → times 1 (met a b c) ≡ (if b then 1 else 0)
times-second false false false = refl
times-second false false true = refl
times-second false true false = refl
times-second false true true = refl
times-second true false false = refl
times-second true false true = refl
times-second true true false = refl
times-second true true true = refl

times-third : (a b c : Bool) → times 2 (met a b c) ≡ (if c then 1 else 0)
times-third false false false = refl
times-third false false true = refl
times-third false true false = refl
times-third false true true = refl
times-third true false false = refl
times-third true false true = refl
times-third true true false = refl
times-third true true true = refl

-- ---- what an issue that runs left, seen with its working list

pub record IsAdoptable (w : WorkView) (m : Replicas) : Type 0 where
  pub history : IsHistory w.participants w.entries
  pub numbers : All IsEntry w.entries
  pub small : w.capacity ≤ 100000000
  pub roomy : IsRoomy w.capacity m
  pub running : IsRunning (issue_of w m None 0 0)

module _ (w : WorkView) (m mid : Replicas) (able : IsAdoptable w m) (a b c : Bool)
    (first : WasLeft (map spelling w.entries) a m.first mid.first) (second : WasLeft (map spelling w.entries) b m.second mid.second)
    (third : WasLeft (map spelling w.entries) c m.third mid.third) (end : mid.length ≡ length w.entries) where
  running : IsRunning (issue_of w m None 0 0)
  running = able.running

  abbrev start : List ℕ
  start = met a b c

  -- the mirror of what was read
  pub mid-mirrors : Mirrors (map spelling w.entries) mid
  mid-mirrors = record { entries_are = end ∙ sym (length-map w.entries spelling); first = first.holds; second = second.holds; third = third.holds }

  start-are : AreLosses (states m) start
  start-are = met-are m.first.state m.second.state m.third.state a b c first.stood second.stood third.stood

  pub mid-states : states mid ≡ with_lost start (states m)
  mid-states =
      left-state (states mid) mid.first.state mid.second.state mid.third.state m.first.state m.second.state m.third.state a b c refl first.state_is second.state_is third.state_is
      ∙ sym (met-lost m.first.state m.second.state m.third.state a b c)

  start-up : length start + up (states mid) ≡ up (states m)
  start-up = omega (arith, up-losses start (states m) start-are, ap up mid-states)

  pub loss-room : HasLossRoom start mid
  loss-room = record {
    capacity = w.capacity;
    roomy = record {
      first = omega (arith, able.roomy.first, first.room);
      second = omega (arith, able.roomy.second, second.room);
      third = omega (arith, able.roomy.third, third.room);
    };
    fits = omega (arith, running.fits, start-up, end);
    three = omega (arith, start-up, up-most (states m));
  }

  pub own-few : length (entries_by 0 w.entries) + 3 < 2 ^ 32
  own-few = omega (arith, entries_by-few 0 w.entries, running.fits, able.small)

  module _ (m' : Replicas) (more : List ℕ) (some : 0 < length (start ++ more) → 0 < length w.entries) (written : LossesWritten (length (entries_by 0 w.entries)) start more mid m') where
    abbrev lost : List ℕ
    lost = start ++ more

    abbrev grown : List Entry
    grown = w.entries ++ losses_at w lost

    -- after the journal
    nodes-are : states m ≡ nodes_after w.entries
    nodes-are = running.states_are

    pub lost-are : AreLosses (nodes_after w.entries) lost
    lost-are =
        subst (λ (ns : List NodeState). AreLosses ns lost) nodes-are
        (losses-append start more (states m) start-are (subst (λ (ns : List NodeState). AreLosses ns more) mid-states written.losses))

    states-after : states m' ≡ with_lost lost (nodes_after w.entries)
    states-after =
        written.states_are ∙ ap (with_lost more) mid-states ∙ sym (with-append start more (states m)) ∙ ap (with_lost lost) nodes-are

    pub losses-on : FollowOn w.participants w.entries (losses_at w lost)
    losses-on = losses-follow w.participants lost w.entries (length (entries_by 0 w.entries)) refl some lost-are (ap has_synchronised (sym states-after) ∙ written.some)

    up-left : up (states m') + length lost ≡ up (nodes_after w.entries)
    up-left = omega (arith, up-losses lost (nodes_after w.entries) lost-are, ap up states-after)

    up-before : up (nodes_after w.entries) ≡ up (states m)
    up-before = ap up (sym nodes-are)

    pub lost-room : length w.entries + length lost ≤ w.capacity
    lost-room = omega (arith, up-left, up-before, running.fits)

    length-grown : length grown ≡ length w.entries + length lost
    length-grown = length-append w.entries (losses_at w lost) ∙ ap (λ (n : ℕ). length w.entries + n) (length-losses lost (length w.entries) (length (entries_by 0 w.entries)))

    grew-node : (k a : ℕ) (old mid new : ℕ) → times k start ≡ a → GrewBy a old mid → GrewBy (times k more) mid new → GrewBy (times k lost) old new
    grew-node k a old mid new is one two = omega (arith, times-append k start more, is, grew-then a (times k more) old mid new one two)

    pub adopted-grew : Grew lost m m'
    adopted-grew = record {
      first = grew-node 0 _ m.first.faults mid.first.faults m'.first.faults (times-first a b c) first.grew written.grew.first;
      second = grew-node 1 _ m.second.faults mid.second.faults m'.second.faults (times-second a b c) second.grew written.grew.second;
      third = grew-node 2 _ m.third.faults mid.third.faults m'.third.faults (times-third a b c) third.grew written.grew.third;
    }

    covered : (k old new : ℕ) → GrewBy (times k lost) old new → recorded k (drop (length w.entries) grown) ≤ new
    covered k old new grew =
        let is : recorded k (drop (length w.entries) grown) ≡ times k lost =
        ap (recorded k) (drop-append_seam w.entries (losses_at w lost)) ∙ recorded-losses k lost (length w.entries) (length (entries_by 0 w.entries)) in
        omega (arith, is, grew, times-most k lost, lost-room, able.small)

    most-grown : (left mid new : Replica) → mid.most ≡ left.most → Keeps m'.length mid new → left.most ≤ length w.entries → new.most ≤ length grown
    most-grown left mid new same keeps before =
        most-within mid.most m'.length new.most (length grown) keeps.most (omega (arith, same, before, length-grown)) (omega (arith, length-grown, written.entries, end))

    roomy-after : (left mid new : Replica) → length mid.contents + mid.spare ≡ length left.contents + left.spare → Keeps m'.length mid new → w.capacity ≤ length left.contents + left.spare → w.capacity ≤ length new.contents + new.spare
    roomy-after left mid new same keeps room = omega (arith, same, keeps.room, room)

    running-after : (issue : ℕ) → IsRunning (issue_of (worked (losses_at w lost) w) m' None issue (length w.entries))
    running-after issue = record {
      mirrors = subst (λ (js : List (List ℕ)). Mirrors js m') (sym (map-append spelling w.entries (losses_at w lost)))
          (subst (λ (n : ℕ). Mirrors (map spelling w.entries ++ map spelling (losses_from n (length (entries_by 0 w.entries)) lost)) m') end (written.mirrors (map spelling w.entries) mid-mirrors));
      states_are = states-after ∙ sym (nodes-losses lost w.entries (length w.entries) (length (entries_by 0 w.entries)));
      some = written.some;
      fits = omega (arith, length-grown, up-left, up-before, running.fits);
      first_most = most-grown m.first mid.first m'.first first.most_is written.keeps.first running.first_most;
      second_most = most-grown m.second mid.second m'.second second.most_is written.keeps.second running.second_most;
      third_most = most-grown m.third mid.third m'.third third.most_is written.keeps.third running.third_most;
    }

    pub adopted-stands : (issue : ℕ) → IsIssueNow (issue_of (worked (losses_at w lost) w) m' None issue (length w.entries))
    adopted-stands issue = record {
      history = follow-more w.participants [] w.entries (losses_at w lost) able.history losses-on;
      numbers = All-append IsEntry w.entries (losses_at w lost) able.numbers
          (losses-numbers lost (nodes_after w.entries) (length w.entries) (length (entries_by 0 w.entries)) lost-are (omega (arith, lost-room, able.small)) (omega (arith, entries_by-few 0 w.entries, lost-room, able.small)));
      place = omega (arith, length-grown);
      within = omega (arith, length-grown, lost-room);
      small = able.small;
      first_covered = covered 0 m.first.faults m'.first.faults adopted-grew.first;
      second_covered = covered 1 m.second.faults m'.second.faults adopted-grew.second;
      third_covered = covered 2 m.third.faults m'.third.faults adopted-grew.third;
      roomy = record {
        first = roomy-after m.first mid.first m'.first first.room written.keeps.first able.roomy.first;
        second = roomy-after m.second mid.second m'.second second.room written.keeps.second able.roomy.second;
        third = roomy-after m.third mid.third m'.third third.room written.keeps.third able.roomy.third;
      };
      labels = record { first = refl; second = refl; third = refl };
      stands = running-after issue;
    }

-- ---- no loss was met

same-keeps : (n : ℕ) (r : Replica) → Keeps n r r
same-keeps n r = record { label = refl; room = refl; faults = omega arith; most = most-more r.most n }
  where
    most-more : (a b : ℕ) → a ≤ max a b
    most-more a b = grind (arith, nat_tests)

pub none-written : (own : ℕ) (lost : List ℕ) (m : Replicas) → length lost ≡ 0 → has_synchronised (states m) ≡ true
    → (x : List ℕ) × (lost ≡ lost ++ x) × (length lost ≡ 0 → x ≡ []) × LossesWritten own lost x m m
none-written own [] m none some = (
  [],
  refl,
  (λ _. refl),
  record {
    mirrors = λ journal h. subst (λ (js : List (List ℕ)). Mirrors js m) (sym (append-nil journal)) h;
    states_are = refl;
    losses = tt;
    some = some;
    grew = record { first = omega arith; second = omega arith; third = omega arith };
    keeps = record { first = same-keeps m.length m.first; second = same-keeps m.length m.second; third = same-keeps m.length m.third };
    entries = omega arith;
  },
)
none-written own (k ∷ ks) m none some = absurd (omega (arith, none))
