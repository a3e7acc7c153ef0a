-- The event of a turn, and then its losses.
use Rattle.std.proofs.Common.{◌≡◌, ℕ, ◌+◌, ◌==◌, ◌<◌, ◌≤◌, ◌∙◌, Bool, true, false, List, [], ◌∷◌, ◌++◌, Some, ap, arith, length, subst, sym, take, tests}
use Rattle.std.proofs.Math.Seq.{take-length}
use Rattle.mkt_base.specs.declared.event.Entry.{Entry}
use Rattle.mkt_base.specs.declared.journal.NodeState.TheVariants.{Synchronised}
use Rattle.record_codec.specs.Entry.{spelling}
use Rattle.node_rules.specs.Nodes.{crashes, has_synchronised, is_lost, joins, state_at, up, up_in}
use Rattle.mirror.specs.Replicas.{Replicas, states}
use Rattle.turn_writer.specs.Losses.{AreLosses, losses_from, with_lost}
use Rattle.turn_writer.specs.Went.{EventWritten, Gone, LossesKnown, Went, behind_at}
use Rattle.turn_writer.specs.Writing.{HasLossRoom, HasTurnRoom, NoneLeft, Written, asks, spelled, turn_entries}
use Rattle.turn_writer.proofs.Behind.{behind-each, behind-up, crashed-stays, joined-stays, joins-lost}
use Rattle.turn_writer.proofs.Going.{roomy-kept, went-on, went-three, went-up}
use Rattle.turn_writer.proofs.Losing.{went-grew, went-losses, went-states}
use Rattle.turn_writer.proofs.Recording.{recording-length}
use Rattle.turn_writer.proofs.Slots.{tame-none}
use Rattle.turn_writer.proofs.Turning.{crashed_behind, none-left}

module _ (e : Entry) (l : List ℕ) (a b : Replicas) (p : EventWritten e l a b) where
  length-one : b.length ≡ a.length + 1
  length-one = let long : b.length ≡ a.length + length (spelling e ∷ []) = p.entries in omega (arith, long)

  -- there is room for the losses
  pub turn-room : HasTurnRoom e.event a → HasLossRoom l b
  turn-room room = record {
    capacity = room.capacity;
    roomy = roomy-kept room.capacity a b p.keeps room.roomy;
    fits =
        let long : b.length ≡ a.length + 1 = length-one in
        let sum : length l + up (states b) ≡ up_in (behind_at e a 0 a.first.state) + up_in (behind_at e a 1 a.second.state) + up_in (behind_at e a 2 a.third.state) = went-up (spelling e ∷ []) _ _ _ l a b p in
        let most : up_in (behind_at e a 0 a.first.state) + up_in (behind_at e a 1 a.second.state) + up_in (behind_at e a 2 a.third.state) ≤ up (states a) + asks e.event = behind-up e a in
        let fits : a.length + 1 + (up (states a) + asks e.event) ≤ room.capacity = room.fits in
        omega (arith, long, sum, most, fits);
    three = went-three (spelling e ∷ []) _ _ _ l a b p;
  }

  module _ (gateway : 0 < e.caller.0) where
    -- a synchronised node does not join
    other : (k i : ℕ) → is_lost (state_at (states a) k) ≡ false → joins e.event (states a) ≡ Some i → (i == k) ≡ true → ⊥
    other k i stands is t =
        let same : i ≡ k = search (tests, t) in
        let lost : is_lost (state_at (states a) k) ≡ true = subst (λ j. is_lost (state_at (states a) j) ≡ true) same (joins-lost e.event (states a) i is) in
        let both : ◌≡◌ {A = Bool} true false = sym lost ∙ stands in absurd (cc)

    stays : (k : ℕ) → state_at (states a) k ≡ Synchronised → crashes e.event k ≡ false → behind_at e a k (state_at (states a) k) ≡ Synchronised
    stays k s spared =
        joined-stays (a.length + 1) k (joins e.event (states a)) (crashed_behind e a k (state_at (states a) k)) (crashed-stays e.event a.length k (state_at (states a) k) s spared)
        (λ i is t. other k i (ap (λ r. is_lost r) s) is t)

    -- no node is left for the losses
    pub turn-gone : (c : Replicas) → Gone b c → NoneLeft e a c
    turn-gone c q =
        none-left e (spelling e ∷ []) (behind_at e a 0 a.first.state) (behind_at e a 1 a.second.state) (behind_at e a 2 a.third.state) l a b c (omega arith)
        (stays 0) (stays 1) (stays 2) (λ none. ap has_synchronised (behind-each e a gateway) ∙ none) p q

    -- the entry and its losses are written
    pub turn-written : (own : ℕ) (lost : List ℕ) (c : Replicas) → e.place ≡ a.length → LossesKnown own l lost b c → Written e own lost a c
    turn-written own lost c at k =
        let place : b.length ≡ e.place + 1 = (let long : b.length ≡ a.length + 1 = length-one in omega (arith, long, at)) in
        let first : Went ((spelling e ∷ []) ++ spelled (losses_from b.length own (take (length lost) lost))) (behind_at e a 0 a.first.state) (behind_at e a 1 a.second.state) (behind_at e a 2 a.third.state) (l ++ k.recording.more) a c =
        went-on (λ s. s) (λ s. s) (λ s. s) tame-none tame-none tame-none (spelling e ∷ []) (spelled (losses_from b.length own (take (length lost) lost)))
        (behind_at e a 0 a.first.state) (behind_at e a 1 a.second.state) (behind_at e a 2 a.third.state) l k.recording.more a b c p k.recording.went in
        let second : Went (spelled (turn_entries e own lost)) (behind_at e a 0 a.first.state) (behind_at e a 1 a.second.state) (behind_at e a 2 a.third.state) (l ++ k.recording.more) a c =
        subst (λ xs. Went (spelling e ∷ spelled (losses_from (e.place + 1) own xs)) (behind_at e a 0 a.first.state) (behind_at e a 1 a.second.state) (behind_at e a 2 a.third.state) (l ++ k.recording.more) a c) (take-length lost)
        (subst (λ n. Went (spelling e ∷ spelled (losses_from n own (take (length lost) lost))) (behind_at e a 0 a.first.state) (behind_at e a 1 a.second.state) (behind_at e a 2 a.third.state) (l ++ k.recording.more) a c) place first) in
        let whole : Went (spelled (turn_entries e own lost)) (behind_at e a 0 a.first.state) (behind_at e a 1 a.second.state) (behind_at e a 2 a.third.state) lost a c =
        subst (λ xs. Went (spelled (turn_entries e own lost)) (behind_at e a 0 a.first.state) (behind_at e a 1 a.second.state) (behind_at e a 2 a.third.state) xs a c) (sym k.recording.lost_are) second in
        record {
          mirrors = whole.mirrors;
          states_are = went-states (spelled (turn_entries e own lost)) _ _ _ lost a c whole ∙ ap (λ ss. with_lost lost ss) (sym (behind-each e a gateway));
          losses = subst (λ ss. AreLosses ss lost) (sym (behind-each e a gateway)) (went-losses (spelled (turn_entries e own lost)) _ _ _ lost a c whole);
          some = k.some;
          grew = went-grew (spelled (turn_entries e own lost)) _ _ _ lost a c whole;
          keeps = whole.keeps;
          entries =
              let long : b.length ≡ a.length + 1 = length-one in
              let more : c.length ≡ b.length + length lost = recording-length own (length lost) l lost b c k.recording in
              omega (arith, long, more);
        }
