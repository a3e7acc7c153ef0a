use Rattle.std.proofs.Common.{◌≡◌, Bool, true, false, refl, subst}
use Rattle.mkt_base.specs.Book.{price_at}
use Rattle.mkt_base.specs.declared.auction.Outcome.{Outcome}
use Rattle.auction_law.specs.Attempt.{IsAttempt, meets}
use Rattle.auction_check.proofs.law.true_certificate_decides.Goals as goal

-- a price that meets the conditions is not nearer
not-met : (met nearer : Bool) → (met ≡ true → nearer ≡ false) → nearer ≡ true → met ≡ false
not-met true nearer far near = absurd (let no : nearer ≡ false = far refl in cc)
not-met false nearer far near = refl

pub returns : goal.returns
returns c grid orders certificate volume sums is traded =
    let at = price_at grid certificate.reference in
    let P : Outcome → Type 0 = λ o. IsAttempt grid orders at (price_at grid certificate.lo) (price_at grid certificate.hi) o in
    let answered = subst P traded is.outcome_is in
    let nearest = c.chosen_is_nearest.ensures grid orders at sums.price.0 answered.1 in
    (nearest.0, nearest.1, λ q there nearer. not-met (meets grid orders q) _ (λ met. nearest.2 q there met) nearer)
