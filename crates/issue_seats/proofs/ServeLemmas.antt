-- Servers of issues, one after the other.
use Rattle.std.proofs.Common.{◌≡◌, ℕ, ◌<◌, ◌+◌, List, [], ◌∷◌, ◌++◌, length, get_or, refl, sym, ap, subst, ◌∙◌, arith, below_more}
use Rattle.std.proofs.Math.ListN.{get_or-append}
use Rattle.std.proofs.lemmas.List.{get_or_push, length_push}
use Rattle.atomic_table.specs.Seated.{TableId}
use Rattle.turn_cell.specs.Passes.{Known, first_pass}
use Rattle.issue_journal.specs.Issue.{Fixed, IssueNow}
use Rattle.issue_seats.specs.Seats.{AreServed}

module _ (callers : ℕ) where
  pub served-none : AreServed callers [] [] []
  served-none = record { servers_each = refl; passes_each = refl; first = λ n i s p within. absurd (omega (arith, within)) }

  -- at this place is a server's first pass
  abbrev IsFirstAt : List IssueNow → List TableId → List (Known Fixed) → ℕ → Type 0
  IsFirstAt issues servers passes n = (i : IssueNow) (s : TableId) (p : Known Fixed) → get_or passes n p ≡ first_pass (get_or servers n s) callers (get_or issues n i).fixed

  -- one issue more
  pub served-more : (issues : List IssueNow) (servers : List TableId) (passes : List (Known Fixed)) (i : IssueNow) (s : TableId) (p : Known Fixed)
      → AreServed callers issues servers passes → p ≡ first_pass s callers i.fixed → AreServed callers (issues ++ i ∷ []) (servers ++ s ∷ []) (passes ++ p ∷ [])
  served-more issues servers passes i s p so_far this = record {
    servers_each = length_push servers s ∙ ap (λ n. n + 1) so_far.servers_each ∙ sym (length_push issues i);
    passes_each = length_push passes p ∙ ap (λ n. n + 1) so_far.passes_each ∙ sym (length_push issues i);
    first = λ n j t q within. below_more (IsFirstAt (issues ++ i ∷ []) (servers ++ s ∷ []) (passes ++ p ∷ [])) (length issues) below here n (omega (arith, within, length_push issues i)) j t q;
  }
    where
      below : (n : ℕ) → n < length issues → IsFirstAt (issues ++ i ∷ []) (servers ++ s ∷ []) (passes ++ p ∷ []) n
      below n within j t q =
          let of_pass = get_or-append passes (p ∷ []) q n (omega (arith, within, so_far.passes_each)) in
          let of_server = get_or-append servers (s ∷ []) t n (omega (arith, within, so_far.servers_each)) in
          let of_issue = get_or-append issues (i ∷ []) j n within in
          let first = so_far.first n j t q within in
          cc

      here : IsFirstAt (issues ++ i ∷ []) (servers ++ s ∷ []) (passes ++ p ∷ []) (length issues)
      here j t q =
          let of_pass = get_or_push passes p q (length issues) so_far.passes_each in
          let of_server = get_or_push servers s t (length issues) so_far.servers_each in
          let of_issue = get_or_push issues i j (length issues) refl in
          cc

  pub served-begin : (servers : List TableId) (passes : List (Known Fixed)) → servers ≡ [] → passes ≡ [] → AreServed callers [] servers passes
  served-begin servers passes none no_pass =
      subst (λ (ss : List TableId). AreServed callers [] ss passes) (sym none) (subst (λ (ps : List (Known Fixed)). AreServed callers [] [] ps) (sym no_pass) served-none)

  pub served-pushed : (issues : List IssueNow) (servers new_servers : List TableId) (passes new_passes : List (Known Fixed)) (i : IssueNow) (s : TableId) (p : Known Fixed)
      → AreServed callers issues servers passes → p ≡ first_pass s callers i.fixed → new_servers ≡ servers ++ s ∷ [] → new_passes ≡ passes ++ p ∷ []
      → AreServed callers (issues ++ i ∷ []) new_servers new_passes
  served-pushed issues servers new_servers passes new_passes i s p so_far this servers_are passes_are =
      subst (λ (ss : List TableId). AreServed callers (issues ++ i ∷ []) ss new_passes) (sym servers_are)
      (subst (λ (ps : List (Known Fixed)). AreServed callers (issues ++ i ∷ []) (servers ++ s ∷ []) ps) (sym passes_are) (served-more issues servers passes i s p so_far this))
