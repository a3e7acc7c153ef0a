-- Sum reads one after another, and the steps that they take.
use Rattle.std.proofs.Common.{◌≡◌, ℕ, zero, suc, ◌+◌, ◌*◌, ◌^◌, ◌<◌, ◌≤◌, refl, sym, subst, arith, mul-le-mul_right}
use Rattle.order_book.specs.Reads.{TakesTwoReads}
use Rattle.itayose.specs.Reads.{MakesReads, ReadsWithin}

-- the reads of one part and then those of another
reads-then : (size m n a b c : ℕ) → MakesReads size m a b → MakesReads size n b c → MakesReads size (n + m) a c
unfolding MakesReads
reads-then size zero n a b c h k =
    let e : n ≡ n + 0 = omega arith in
    subst (λ x. MakesReads size x a c) e (subst (λ x. MakesReads size n x c) (sym h) k)
reads-then size (suc m) n a b c h k =
    let e : suc (n + m) ≡ n + suc m = omega arith in
    subst (λ x. MakesReads size x a c) e (h.0, h.1, reads-then size m n h.0 b c h.2 k)

-- none
pub reads-none : (size most a : ℕ) → ReadsWithin size 0 most a a
unfolding MakesReads
reads-none size most a = record { count = 0; enough = omega arith; few = omega arith; made = refl }

-- two
pub reads-two : (size a b : ℕ) → TakesTwoReads size a b → ReadsWithin size 2 2 a b
unfolding MakesReads
reads-two size a b h = record { count = 2; enough = omega arith; few = omega arith; made = (h.between, h.first, (b, h.second, refl)) }

-- those of two parts together
pub reads-join : (size l m l' m' low high a b c : ℕ) → ReadsWithin size l m a b → ReadsWithin size l' m' b c → low ≤ l + l' → m + m' ≤ high → ReadsWithin size low high a c
reads-join size l m l' m' low high a b c h k lows highs = record {
  count = k.count + h.count;
  enough = omega arith;
  few = omega arith;
  made = reads-then size h.count k.count a b c h.made k.made;
}

-- each takes at most one step more than the size has digits
reads-bound : (size digits n a b : ℕ) → size < 2 ^ digits → MakesReads size n a b → b ≤ a + n * (digits + 1)
unfolding MakesReads
reads-bound size digits zero a b d h = omega (arith, h)
reads-bound size digits (suc n) a b d h =
    let first : h.0 ≤ a + digits + 1 = h.1.few digits d in
    let rest : b ≤ h.0 + n * (digits + 1) = reads-bound size digits n h.0 b d h.2 in
    omega arith

-- so many steps in all
pub steps-bound : (size digits l m a b : ℕ) → size < 2 ^ digits → ReadsWithin size l m a b → b ≤ a + m * (digits + 1)
steps-bound size digits l m a b d h =
    omega (arith, reads-bound size digits h.count a b d h.made, mul-le-mul_right (digits + 1) h.few)

-- A search among so many positions: of so many halvings that are enough some were made, and what is left to search is as small as
-- the others want it.
pub record IsHalved (size halvings before now gap : ℕ) : Type 0 where
  pub made : ℕ
  pub left : ℕ
  pub all : made + left ≡ halvings
  pub small : gap < 2 ^ left
  pub reads : ReadsWithin size 0 (2 * made) before now

-- before the first
pub halved-first : (size halvings before gap : ℕ) → gap < 2 ^ halvings → IsHalved size halvings before before gap
halved-first size halvings before gap h = record {
  made = 0;
  left = halvings;
  all = omega arith;
  small = h;
  reads = reads-none size 0 before;
}

-- one more
pub halved-next : (size halvings before now next gap rest : ℕ) → IsHalved size halvings before now gap → 0 < gap → 2 * rest ≤ gap → TakesTwoReads size now next
    → IsHalved size halvings before next rest
halved-next size halvings before now next gap rest h some half two = by h.left refl
  where
    by : (left : ℕ) → h.left ≡ left → IsHalved size halvings before next rest
    by zero e = absurd (omega (arith, subst (λ n. gap < 2 ^ n) e h.small))
    by (suc left) e = record {
      made = h.made + 1;
      left = left;
      all = omega (arith, h.all, e);
      small = omega (arith, subst (λ n. gap < 2 ^ n) e h.small);
      reads = reads-join size 0 (2 * h.made) 2 2 0 (2 * (h.made + 1)) before now next h.reads (reads-two size now next two) (omega arith) (omega arith);
    }

-- at the end
pub halved-reads : (size halvings before now gap : ℕ) → IsHalved size halvings before now gap → ReadsWithin size 0 (2 * halvings) before now
halved-reads size halvings before now gap h = record {
  count = h.reads.count;
  enough = omega arith;
  few = omega (arith, h.reads.few, h.all);
  made = h.reads.made;
}
