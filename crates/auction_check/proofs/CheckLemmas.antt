-- The walk over the prices that are nearer than the chosen one, beside the prices that a certificate rules out.
use Rattle.std.proofs.Common.{◌≡◌, ◌≢◌, ◌↔◌, ℕ, Bool, true, false, not, List, [], ◌∷◌, map, Some, find, take_while, refl}
use Rattle.std.proofs.lemmas.List.Sums.{take_while-cons}
use Rattle.mkt_base.specs.Book.{sums_at}
use Rattle.mkt_base.specs.declared.auction.Sums.{Sums}
use Rattle.mkt_base.specs.declared.units.Price.{Price}
use Rattle.mkt_base.specs.declared.order.Order.{Order}
use Rattle.auction_law.specs.Attempt.{meets}

-- the sums of those prices of a list that come before the first that meets the conditions
abbrev pub sums_before : List Price → List Order → List ℕ → List Sums
sums_before grid orders ps = map (sums_at grid orders) (take_while (λ p. not (meets grid orders p)) ps)

-- of the prices in front of the first that passes none passes, and that one does
module _ (m : ℕ → Bool) where
  pub find-passes : (ps : List ℕ) (q : ℕ) → find m ps ≡ Some q → m q ≡ true
  find-passes [] q e = cc
  find-passes (p ∷ ps) q e = by_test (m p) refl (find-passes ps q)
    where
      by_test : (b : Bool) → m p ≡ b → (find m ps ≡ Some q → m q ≡ true) → m q ≡ true
      by_test true is more = let first = rw is at e in cc
      by_test false is more = more (rw is at e)

  -- a price that is not the one found does not pass
  pub find-other : (p : ℕ) (ps : List ℕ) (q : ℕ) → find m (p ∷ ps) ≡ Some q → p ≢ q → (m p ≡ false) × (find m ps ≡ Some q)
  find-other p ps q e other = by_test (m p) refl
    where
      by_test : (b : Bool) → m p ≡ b → (m p ≡ false) × (find m ps ≡ Some q)
      by_test true is = let first = rw is at e in absurd (other (cc))
      by_test false is = (is, rw is at e)

module _ (grid : List Price) (orders : List Order) (p : ℕ) (ps : List ℕ) where
  -- a price that fails is the first of them
  pub sums_before-failed : meets grid orders p ≡ false → sums_before grid orders (p ∷ ps) ≡ sums_at grid orders p ∷ sums_before grid orders ps
  sums_before-failed h = rw (take_while-cons, h) refl

  -- before a price that meets the conditions there is none
  pub sums_before-met : meets grid orders p ≡ true → sums_before grid orders (p ∷ ps) ≡ []
  sums_before-met h = rw (take_while-cons, h) refl

-- lists with a first item are the same where their first items are and the others
pub same-cons : {A : Type 0} (x y : A) (xs ys : List A) → x ≡ y → (x ∷ xs ≡ y ∷ ys) ↔ (xs ≡ ys)
same-cons x y xs ys e = (λ all. cc, λ more. cc)

-- one equivalence behind another
pub iff_then : {P Q R : Type 0} → P ↔ Q → Q ↔ R → P ↔ R
iff_then first second = (λ p. second.0 (first.0 p), λ r. first.1 (second.1 r))
