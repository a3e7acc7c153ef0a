-- Issues that are closed, and their nodes that are given back.
use Rattle.std.proofs.Common.{◌≡◌, ◌≢◌, ◌⊎◌, ◌↔◌, ℕ, zero, suc, ◌+◌, ◌<◌, ◌≤◌, List, [], ◌∷◌, ◌++◌, length, drop, Option, Some, None, refl, sym, ap, subst, ◌∙◌, arith, inl, inr}
use Rattle.std.specs.List.{slice_get}
use Rattle.std.proofs.lemmas.Bool.{cases_eq, cases_lt}
use Rattle.mkt_base.specs.declared.journal.Halt.{Halt}
use Rattle.mkt_base.specs.declared.journal.NodeState.{NodeState}
use Rattle.memory_node.specs.Given.{Given}
use Rattle.memory_node.specs.declared.node.Label.{Label}
use Rattle.mirror.specs.Mirrored.{HoldsAs}
use Rattle.mirror.specs.Replicas.{Replica}
use Rattle.node_rules.specs.Nodes.{state_at}
use Rattle.issue_machine.specs.History.{nodes_after}
use Rattle.issue_journal.specs.Issue.{IsIssueNow, IssueNow, Stands, recorded, recorded_since, spelled_journal}
use Rattle.run_report.specs.declared.ended.EndedIssue.{EndedIssue}
use Rattle.script_run.specs.Nodes.{AreAtEnd, AreGivenBack, IsKept, node_label}
use Rattle.script_run.specs.Running.{AreOutBelow, AreOutFrom, IsOther, ended_as}

-- labels of one issue differ by their nodes
pub label-apart : (n j k r : ℕ) → r ≡ k → (j ≡ k → ⊥) → node_label n j ≡ node_label n r → ⊥
label-apart n j k r is apart same = apart (ap (λ (l : Label). l.node) same ∙ is)

-- what a node tells, as the issue saw it
pub record Tells (node : Replica) (given : Given) : Type 0 where
  pub contents : node.contents ≡ given.contents
  pub faults : node.faults ≡ given.faults
  pub most : node.most ≡ given.most

module _ (i : IssueNow) (a b c : Given) (first : Tells i.nodes.first a) (second : Tells i.nodes.second b) (third : Tells i.nodes.third c) (place : i.fixed.place ≡ 0) where
  since : (k : ℕ) → recorded_since k i ≡ recorded k i.entries
  since k = ap (λ (p : ℕ). recorded k (drop p i.entries)) place

  kept : (k : ℕ) (state : NodeState) (node : Replica) (given : Given) → Tells node given → state_at (nodes_after i.entries) k ≡ state → HoldsAs (spelled_journal i) state node.contents → IsKept i.entries k given
  kept k state node given tells is holds =
      subst (λ (s : NodeState). HoldsAs (spelled_journal i) s given.contents) (sym is) (subst (HoldsAs (spelled_journal i) state) tells.contents holds)

  at-end : (h : Option Halt) → Stands i h → AreAtEnd i.entries h a b c
  at-end None running =
      let state : (k : ℕ) → state_at (nodes_after i.entries) k ≡ state_at (i.nodes.first.state ∷ i.nodes.second.state ∷ i.nodes.third.state ∷ []) k =
      λ k. ap (λ (ns : List NodeState). state_at ns k) (sym running.states_are) in
      record {
        first = kept 0 i.nodes.first.state i.nodes.first a first (state 0) running.mirrors.first;
        second = kept 1 i.nodes.second.state i.nodes.second b second (state 1) running.mirrors.second;
        third = kept 2 i.nodes.third.state i.nodes.third c third (state 2) running.mirrors.third;
      }
  at-end (Some h) halted = record {
    first = record {
      contents = sym first.contents ∙ halted.first.contents;
      failed = λ synchronised apart. let more = halted.first_failed synchronised apart in omega (arith, more, since 0, first.faults);
      most = let upto = halted.first.most in omega (arith, upto, first.most);
    };
    second = record {
      contents = sym second.contents ∙ halted.second.contents;
      failed = λ synchronised apart. let more = halted.second_failed synchronised apart in omega (arith, more, since 1, second.faults);
      most = let upto = halted.second.most in omega (arith, upto, second.most);
    };
    third = record {
      contents = sym third.contents ∙ halted.third.contents;
      failed = λ synchronised apart. let more = halted.third_failed synchronised apart in omega (arith, more, since 2, third.faults);
      most = let upto = halted.third.most in omega (arith, upto, third.most);
    };
    by_event = λ p q r. halted.by_event (λ more. p (omega (arith, more, since 0, first.faults))) (λ more. q (omega (arith, more, since 1, second.faults))) (λ more. r (omega (arith, more, since 2, third.faults)));
  }

  pub given-back : (given : Label → Option Given) (n : ℕ) → IsIssueNow i → given (node_label n 0) ≡ Some a → given (node_label n 1) ≡ Some b → given (node_label n 2) ≡ Some c → AreGivenBack given n (ended_as i)
  given-back given n is one two three = record {
    first = a;
    second = b;
    third = c;
    first_is = one;
    second_is = two;
    third_is = three;
    at_end = at-end i.halt is.stands;
    first_count = let few = is.first_covered in omega (arith, few, since 0, first.faults);
    second_count = let few = is.second_covered in omega (arith, few, since 1, second.faults);
    third_count = let few = is.third_covered in omega (arith, few, since 2, third.faults);
  }

-- ---- which nodes are out

-- a label is of one of an issue's nodes, or another
its-or-other : (n : ℕ) (l : Label) → ((k : ℕ) × (k < 3) × (l ≡ node_label n k)) ⊎ IsOther n l
its-or-other n l = by (cases_eq l.issue n) (cases_lt l.node 3)
  where
    by : (l.issue ≡ n) ⊎ (l.issue ≢ n) → (l.node < 3) ⊎ (3 ≤ l.node) → ((k : ℕ) × (k < 3) × (l ≡ node_label n k)) ⊎ IsOther n l
    by (inl same) (inl node) = inl (l.node, node, ap (λ (k : ℕ). node_label k l.node) same)
    by (inl same) (inr past) = inr (λ k less is. absurd (omega (arith, past, less, ap (λ (m : Label). m.node) is)))
    by (inr apart) node = inr (λ k less is. apart (ap (λ (m : Label). m.issue) is))

module _ (before after : Label → Type 0) (n : ℕ) (others : (l : Label) → IsOther n l → (after l ↔ before l)) where
  pub out-more : AreOutBelow before n → ((k : ℕ) → k < 3 → after (node_label n k)) → AreOutBelow after (n + 1)
  out-more out taken = record { below = below; out = outs }
    where
      below : (l : Label) → after l → (l.issue < n + 1) × (l.node < 3)
      below l is = by (its-or-other n l)
        where
          by : ((k : ℕ) × (k < 3) × (l ≡ node_label n k)) ⊎ IsOther n l → (l.issue < n + 1) × (l.node < 3)
          by (inl its) = (omega (arith, ap (λ (m : Label). m.issue) its.2), omega (arith, its.1, ap (λ (m : Label). m.node) its.2))
          by (inr other) = let less = out.below l ((others l other).0 is) in (omega (arith, less.0), less.1)

      outs : (l : Label) → l.issue < n + 1 → l.node < 3 → after l
      outs l less node = by (its-or-other n l)
        where
          by : ((k : ℕ) × (k < 3) × (l ≡ node_label n k)) ⊎ IsOther n l → after l
          by (inl its) = subst after (sym its.2) (taken its.0 its.1)
          by (inr other) = (others l other).1 (out.out l (lower (cases_eq l.issue n)) node)
            where
              lower : (l.issue ≡ n) ⊎ (l.issue ≢ n) → l.issue < n
              lower (inl same) = absurd (other l.node node (ap (λ (k : ℕ). node_label k l.node) same))
              lower (inr apart) = omega (arith, less, apart)

  pub out-less : (issues : ℕ) → AreOutFrom before n issues → ((k : ℕ) → k < 3 → after (node_label n k) → ⊥) → AreOutFrom after (n + 1) issues
  out-less issues out back = record { from = from; out = outs }
    where
      from : (l : Label) → after l → (n + 1 ≤ l.issue) × (l.issue < issues) × (l.node < 3)
      from l is = by (its-or-other n l)
        where
          by : ((k : ℕ) × (k < 3) × (l ≡ node_label n k)) ⊎ IsOther n l → (n + 1 ≤ l.issue) × (l.issue < issues) × (l.node < 3)
          by (inl its) = absurd (back its.0 its.1 (subst after its.2 is))
          by (inr other) = let there = out.from l ((others l other).0 is) in (higher there (cases_eq l.issue n), there.1, there.2)
            where
              higher : (n ≤ l.issue) × (l.issue < issues) × (l.node < 3) → (l.issue ≡ n) ⊎ (l.issue ≢ n) → n + 1 ≤ l.issue
              higher there (inl same) = absurd (other l.node there.2 (ap (λ (k : ℕ). node_label k l.node) same))
              higher there (inr apart) = omega (arith, there.0, apart)

      outs : (l : Label) → n + 1 ≤ l.issue → l.issue < issues → l.node < 3 → after l
      outs l some less node = (others l (λ k small is. absurd (omega (arith, some, ap (λ (m : Label). m.issue) is)))).1 (out.out l (omega (arith, some)) less node)

-- no node is out before the first is taken, and none after the last is given back
pub none-below : (is_out : Label → Type 0) → ((l : Label) → is_out l → ⊥) → AreOutBelow is_out 0
none-below is_out none = record { below = λ l is. absurd (none l is); out = λ l less node. absurd (omega (arith, less)) }

pub below-from : (is_out : Label → Type 0) (issues : ℕ) → AreOutBelow is_out issues → AreOutFrom is_out 0 issues
below-from is_out issues out = record { from = λ l is. (omega arith, (out.below l is).0, (out.below l is).1); out = λ l some less node. out.out l less node }

pub none-from : (is_out : Label → Type 0) (issues : ℕ) → AreOutFrom is_out issues issues → (l : Label) → is_out l → ⊥
none-from is_out issues out l is = let there = out.from l is in absurd (omega (arith, there.0, there.1))

-- the labels of another issue are others
pub other-issue : (n m k : ℕ) → (m ≡ n → ⊥) → IsOther n (node_label m k)
other-issue n m k apart j less is = apart (ap (λ (l : Label). l.issue) is)

-- ---- one issue more is closed

given-kept : (given now : Label → Option Given) (n : ℕ) (e : EndedIssue) → ((k : ℕ) → now (node_label n k) ≡ given (node_label n k)) → AreGivenBack given n e → AreGivenBack now n e
given-kept given now n e same is = record {
  first = is.first;
  second = is.second;
  third = is.third;
  first_is = same 0 ∙ is.first_is;
  second_is = same 1 ∙ is.second_is;
  third_is = same 2 ∙ is.third_is;
  at_end = is.at_end;
  first_count = is.first_count;
  second_count = is.second_count;
  third_count = is.third_count;
}

get-front : {X : Type 0} (xs ys : List X) (i : ℕ) → i < length xs → slice_get (xs ++ ys) i ≡ slice_get xs i
get-front [] ys i less = absurd (omega (arith, less))
get-front (x ∷ xs) ys zero less = refl
get-front (x ∷ xs) ys (suc i) less = get-front xs ys i (omega (arith, less))

get-last : {X : Type 0} (xs : List X) (y z : X) (i : ℕ) → length xs ≤ i → slice_get (xs ++ y ∷ []) i ≡ Some z → (i ≡ length xs) × (z ≡ y)
get-last [] y z zero past is = (refl, cc)
get-last [] y z (suc i) past is = absurd (cc)
get-last (x ∷ xs) y z zero past is = absurd (omega (arith, past))
get-last (x ∷ xs) y z (suc i) past is = let more = get-last xs y z i (omega (arith, past)) is in (ap suc more.0, more.1)

pub given-push : (given now : Label → Option Given) (es : List EndedIssue) (n : ℕ) (e : EndedIssue) → n ≡ length es
    → ((number : ℕ) (x : EndedIssue) → slice_get es number ≡ Some x → AreGivenBack given number x) → ((l : Label) → IsOther n l → now l ≡ given l) → AreGivenBack now n e
    → (number : ℕ) (x : EndedIssue) → slice_get (es ++ e ∷ []) number ≡ Some x → AreGivenBack now number x
given-push given now es n e at all others last number x is = by (cases_lt number (length es))
  where
    by : (number < length es) ⊎ (length es ≤ number) → AreGivenBack now number x
    by (inl less) =
        given-kept given now number x (λ k. others (node_label number k) (other-issue n number k (λ (same : number ≡ n). absurd (omega (arith, same, at, less)))))
        (all number x (sym (get-front es (e ∷ []) number less) ∙ is))
    by (inr past) =
        let here = get-last es e x number past is in
        let same : number ≡ n = here.0 ∙ sym at in
        subst (λ (y : EndedIssue). AreGivenBack now number y) (sym here.1) (subst (λ (k : ℕ). AreGivenBack now k e) (sym same) last)
