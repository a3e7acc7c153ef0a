-- How many losses of a node are recorded, and how its count of faults covers them.
use Rattle.std.proofs.Common.{◌≡◌, ℕ, ◌+◌, ◌==◌, ◌<◌, ◌≤◌, Bool, false, ◌&&◌, cond, List, [], ◌∷◌, ◌++◌, length, drop, refl, ap, ◌∙◌, arith, inl, inr}
use Rattle.std.proofs.lemmas.List.{drop-append-le, length-drop}
use Rattle.std.proofs.lemmas.List.Sums.{count_by-le-length, sum_by-append, sum_by-cons}
use Rattle.mkt_base.specs.declared.event.Entry.{Entry}
use Rattle.mkt_io.specs.Faults.{Rises}
use Rattle.node_rules.specs.Nodes.{crashes}
use Rattle.turn_writer.specs.Losses.{GrewBy, loss_at, losses_from, times}
use Rattle.turn_writer.specs.Writing.{turn_entries}
use Rattle.issue_journal.specs.Issue.{recorded, records}
use Rattle.issue_journal.proofs.Following.{eqb-apart}

recorded-append : (k : ℕ) (xs ys : List Entry) → recorded k (xs ++ ys) ≡ recorded k xs + recorded k ys
recorded-append k xs ys = sum_by-append (λ (e : Entry). cond {A = ℕ} (records k e) 1 0) xs ys

pub recorded-losses : (k : ℕ) (ks : List ℕ) (place own : ℕ) → recorded k (losses_from place own ks) ≡ times k ks
recorded-losses k [] place own = refl
recorded-losses k (j ∷ ks) place own =
    let one : recorded k (losses_from place own (j ∷ ks)) ≡ cond {A = ℕ} (j == k) 1 0 + recorded k (losses_from (place + 1) (own + 1) ks) =
    sum_by-cons (λ (e : Entry). cond {A = ℕ} (records k e) 1 0) (loss_at place own j) (losses_from (place + 1) (own + 1) ks) in
    let two : times k (j ∷ ks) ≡ cond {A = ℕ} (j == k) 1 0 + times k ks = sum_by-cons (λ (i : ℕ). cond {A = ℕ} (i == k) 1 0) j ks in
    omega (arith, one, two, recorded-losses k ks (place + 1) (own + 1))

-- an entry of a gateway records no loss
recorded-other : (k : ℕ) (e : Entry) → 1 ≤ e.caller.0 → records k e ≡ false
recorded-other k e least = ap (λ (b : Bool). b && crashes e.event k) (eqb-apart e.caller.0 least)

pub recorded-turn : (k : ℕ) (e : Entry) (own : ℕ) (ks : List ℕ) → 1 ≤ e.caller.0 → recorded k (turn_entries e own ks) ≡ times k ks
recorded-turn k e own ks least =
    let rest : recorded k (losses_from (e.place + 1) own ks) ≡ times k ks = recorded-losses k ks (e.place + 1) own in
    let one : recorded k (turn_entries e own ks) ≡ cond {A = ℕ} (records k e) 1 0 + recorded k (losses_from (e.place + 1) own ks) =
    sum_by-cons (λ (x : Entry). cond {A = ℕ} (records k x) 1 0) e (losses_from (e.place + 1) own ks) in
    let none : cond {A = ℕ} (records k e) 1 0 ≡ 0 = ap (λ (b : Bool). cond {A = ℕ} b 1 0) (recorded-other k e least) in
    omega (arith, one, none, rest)

module _ (k place : ℕ) (journal more : List Entry) (n : ℕ) (made : place ≤ length journal) (are : recorded k more ≡ n) where
  -- with more entries so many more are recorded
  pub recorded-since : recorded k (drop place (journal ++ more)) ≡ recorded k (drop place journal) + n
  recorded-since =
      ap (recorded k) (drop-append-le place journal more made) ∙ recorded-append k (drop place journal) more ∙ ap (λ (m : ℕ). recorded k (drop place journal) + m) are

pub recorded-few : (k place : ℕ) (journal : List Entry) → recorded k (drop place journal) ≤ length journal
recorded-few k place journal =
    let fewer : recorded k (drop place journal) ≤ length (drop place journal) = count_by-le-length (records k) (drop place journal) in
    omega (arith, fewer, length-drop place journal)

-- ---- a node's count of faults

-- it covers what is recorded, after losses by which it grew too
pub covered-more : (before n after old new : ℕ) → after ≡ before + n → after ≤ 100000000 → before ≤ old → GrewBy n old new → after ≤ new
covered-more before n after old new is few covered grew = omega (arith, is, few, covered, grew)

-- a count that rose is above what is recorded
pub rises-above : (before old new : ℕ) → before ≤ 100000000 → before ≤ old → Rises old new → before < new
rises-above before old new few covered (inl less) = omega (arith, covered, less)
rises-above before old new few covered (inr last) = omega (arith, few, last)
