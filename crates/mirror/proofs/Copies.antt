-- The copying of records to a joining node.
use Rattle.std.proofs.Common.{◌≡◌, ℕ, ◌+◌, ◌<◌, ◌≤◌, ◌∙◌, Bool, true, false, List, [], ◌∷◌, ◌++◌, arith, if◌then◌else◌, length, nat_lt, refl, slice_index_or}
use Rattle.std.proofs.lemmas.Bool.Decides.{nat_tests}
use Rattle.mkt_base.specs.declared.journal.NodeState.TheVariants.{Joining, Synchronised}
use Rattle.mirror.specs.Calls.{Keeps, reached}
use Rattle.mirror.specs.Members.{AreHeld, WasRead}
use Rattle.mirror.specs.Mirrored.{HoldsAs}
use Rattle.mirror.specs.Replicas.{Replica}
use Rattle.mirror.proofs.Holding.{front, held-copied, held-most, held-read}
use Rattle.mirror.proofs.Keeping.{keeps-after, keeps-within, read-after}

-- the records from one place up to another were copied to the node
pub record Copied (entries from at : ℕ) (to a b : Replica) (to' a' b' : Replica) : Type 0 where
  pub state : to'.state ≡ reached entries at
  pub on : from ≤ at
  pub still : at ≡ from → to' ≡ to
  pub held : (journal : List (List ℕ)) → AreHeld journal entries to a b → AreHeld journal entries to' a' b'
  pub keeps : Keeps entries to to'
  pub a_read : WasRead a a'
  pub b_read : WasRead b b'

-- before the end a node is joining
reached-before : (b : Bool) (entries at : ℕ) → nat_lt at entries ≡ b → at < entries → (if b then Joining at else Synchronised) ≡ Joining at
reached-before true entries at t h = refl
reached-before false entries at t h = absurd (grind (arith, nat_tests, t, h))

module _ (entries from at : ℕ) (to a b to' a' b' to'' a'' b'' : Replica) (rec : List ℕ) (before : Copied entries from at to a b to' a' b') (less : at < entries) (a_read : WasRead a' a'') (b_read : WasRead b' b'') (read : (journal : List (List ℕ)) → HoldsAs journal a'.state a'.contents → HoldsAs journal b'.state b'.contents → rec ≡ slice_index_or journal at rec) (state : to''.state ≡ reached entries (at + 1)) (put : to''.contents ≡ to'.contents ++ rec ∷ []) (keeps : Keeps (length to''.contents) to' to'') where
  -- the node still lacks a record
  joins : to'.state ≡ Joining at
  joins = before.state ∙ reached-before (nat_lt at entries) entries at refl less

  -- the nodes mirror the journal after this record

  held-then : (journal : List (List ℕ)) → AreHeld journal entries to a b → AreHeld journal entries to'' a'' b''
  held-then journal h =
      let now : AreHeld journal entries to' a' b' = before.held journal h in
      let there : HoldsAs journal to''.state (to'.contents ++ rec ∷ []) =
      held-copied journal entries at to''.state to'.contents rec now.entries_are less
      (front journal to'.state at to'.contents now.first joins).0 (read journal now.second now.third) state in
      record {
        entries_are = now.entries_are;
        first = rw put there;
        second = held-read journal a' a'' a_read now.second;
        third = held-read journal b' b'' b_read now.third;
      }

  -- one record more was copied
  pub copied-next : (journal : List (List ℕ)) → AreHeld journal entries to a b → Copied entries from (at + 1) to a b to'' a'' b''
  copied-next journal h = record {
    state = state;
    on = let on : from ≤ at = before.on in omega (arith, on);
    still = λ e. let on : from ≤ at = before.on in absurd (omega (arith, on, e));
    held = held-then;
    keeps =
        let now : AreHeld journal entries to'' a'' b'' = held-then journal h in
        let most : length to''.contents ≤ length journal = held-most journal to''.state to''.contents now.first in
        let are : entries ≡ length journal = now.entries_are in
        keeps-after entries to to' to'' before.keeps
        (keeps-within (length to''.contents) entries to' to'' (omega (arith, most, are)) keeps);
    a_read = read-after a a' a'' before.a_read a_read;
    b_read = read-after b b' b'' before.b_read b_read;
  }
