use Rattle.std.proofs.Common.{◌≡◌, ℕ, ◌-◌, List, length, refl, ap, subst, ◌∙◌, arith, inl, inr, []}
use Rattle.mkt_base.specs.Book.{price_at}
use Rattle.mkt_base.specs.Certificate.{Certificate, certificate_text}
use Rattle.mkt_base.specs.declared.auction.Outcome.{Outcome}
use Rattle.mkt_base.specs.declared.auction.Outcome.TheVariants.{Traded, Calm, Pressed}
use Rattle.mkt_base.specs.declared.order.Order.{Order}
use Rattle.mkt_base.specs.declared.units.Price.{Price}
use Rattle.auction_law.specs.Attempt.{certificate_of}
use Rattle.auction_law.proofs.LevelLemmas.{levels_answer_alike}
use Rattle.auction_check.specs.True.{IsTrueCertificate}
use Rattle.auction_check.specs.declared.certificate.Certificate.{Certificate as Checked}
use Rattle.auction_report.specs.Shown.{shown}
use Rattle.auction_file.specs.AuctionFile.{Auction, IsSound}
use Rattle.auction_file.specs.EvenGrid.{grid_prices}
use Rattle.auction_file.specs.Meaning.{IsAlike, merged_of}
use Rattle.market_top.specs.Auction.{IsOutcome, certified}
use Rattle.market_top.specs.Verdict.{Verdict, no_memory}
use Rattle.market_top.proofs.VerdictLemmas.{Delivered-certified, Delivered-not_certified, Delivered-told}
use Rattle.market_top.proofs.auction.hold_auction.Goals as goal

-- what one auction answers, an auction alike answers too
answers-alike : (merged a : Auction) → IsAlike merged a → (outcome : Outcome) → IsOutcome merged outcome → IsOutcome a outcome × (certified merged outcome ≡ certified a outcome)
answers-alike merged a alike outcome is =
    let grid = grid_prices merged.grid in
    let same = levels_answer_alike merged.orders a.orders alike.levels grid (price_at grid merged.reference) (price_at grid 0) (price_at grid (merged.grid.count - 1)) outcome is in
    subst (λ (b : Auction). IsOutcome b outcome × (certified merged outcome ≡ certified b outcome)) (λ i. record { grid = alike.grid i; reference = alike.reference i; orders = a.orders })
    (same.0, ap written same.1)
  where
    written : Certificate → Verdict
    written c = record { status = 0; out = certificate_text c; err = [] }

-- the certificate that is written is the one of its outcome
shown-is : (grid : List Price) (orders : List Order) (c : Checked) → IsTrueCertificate grid orders c → shown c ≡ certificate_of grid orders (price_at grid c.reference) c.outcome
shown-is grid orders c is = by c.outcome is.rejected_are
  where
    by : (o : Outcome) → c.rejected ≡ (certificate_of grid orders (price_at grid c.reference) o).rejected
        → let x : Certificate = record { rejected = c.rejected; outcome = o } in x ≡ certificate_of grid orders (price_at grid c.reference) o
    by (Traded volume sums) rejected = λ i. record { rejected = rejected i; outcome = Traded volume sums }
    by (Calm bid ask) rejected = λ i. record { rejected = rejected i; outcome = Calm bid ask }
    by (Pressed side price pressing facing) rejected = λ i. record { rejected = rejected i; outcome = Pressed side price pressing facing }

-- what was gathered over the whole grid is the outcome of the auction, and its certificate
record IsGathered (a : Auction) (c : Checked) : Type 0 where
  pub outcome : IsOutcome a c.outcome
  pub text : certificate_text (shown c) ≡ (certified a c.outcome).out

gathered : (a : Auction) (c : Checked) (reference lo hi : ℕ) → c.reference ≡ reference → c.lo ≡ lo → c.hi ≡ hi → reference ≡ a.reference → lo ≡ 0 → hi ≡ a.grid.count - 1
    → IsTrueCertificate (grid_prices a.grid) a.orders c → IsGathered a c
gathered a c reference lo hi same_reference same_lo same_hi from first last is =
    let grid = grid_prices a.grid in
    record {
      outcome = rw (same_reference ∙ from, same_lo ∙ first, same_hi ∙ last) at is.outcome_is;
      text = ap certificate_text (shown-is grid a.orders c is)
          ∙ ap (λ r. certificate_text (certificate_of grid a.orders (price_at grid r) c.outcome)) (same_reference ∙ from);
    }

-- the certificate over the prices that were lent
gathered-over : (a : Auction) (lent : List Price) (c : Checked) (reference : ℕ) → IsSound a → lent ≡ grid_prices a.grid → reference ≡ a.reference → IsTrueCertificate lent a.orders c
    → (c.reference ≡ reference) × (c.lo ≡ 0) × (c.hi ≡ length lent - 1) → IsGathered a c
gathered-over a lent c reference sound same from is whole =
    let last : length lent - 1 ≡ a.grid.count - 1 = ap (λ (ps : List Price). length ps - 1) same ∙ ap (λ n. n - 1) sound.prices in
    gathered a c reference 0 (length lent - 1) whole.0 whole.1 whole.2 from refl last (subst (λ (ps : List Price). IsTrueCertificate ps a.orders c) same is)

pub returns-in_default : goal.returns-in_default
returns-in_default g c a alike = (no_memory, inl refl, Delivered-told _ _ _ _ no_memory _ _ _ _ refl c.tell.ensures)

pub gather-requires-clause-can : goal.gather-requires-clause-can
gather-requires-clause-can g c =
    rw (c.as_slice-prices.ensures.value, c.in-Ok.ensures)
    (record { rising = c.requires.rising; few = omega (arith, c.requires.prices, c.requires.grid.count_limit); on_grid = c.requires.on_grid; fits = c.requires.fits })

pub gather-requires-clause-left : goal.gather-requires-clause-left
gather-requires-clause-left g c = c.requires.left

pub gather-requires-clause-in_range : goal.gather-requires-clause-in_range
gather-requires-clause-in_range g c = rw (c.as_slice-prices.ensures.value, c.in-Ok.ensures) (omega (arith, c.requires.prices, c.requires.reference))

pub returns-in-Err-Memory : goal.returns-in-Err-Memory
returns-in-Err-Memory g c a alike = (no_memory, inl refl, Delivered-told _ _ _ _ no_memory _ _ _ _ refl c.tell-in-Err-Memory.ensures)

pub returns-in-Ok-write_certificate : goal.returns-in-Ok-write_certificate
returns-in-Ok-write_certificate g c a alike =
    let prices = c.as_slice-prices.ensures.value ∙ c.in-Ok.ensures in
    let merged = merged_of c.args.file.now in
    let certificate = c.in-Ok-gather.certificate in
    let is = gathered-over merged _ certificate c.args.file.now.reference c.requires prices refl c.in-Ok-gather.ensures.is_true c.in-Ok-gather.ensures.whole_grid in
    let whole = answers-alike merged a alike certificate.outcome is.outcome in
    let written = rw (c.in-Ok-write_certificate.is, is.text) at c.write_certificate.ensures in
    (certified merged certificate.outcome, inr (certificate.outcome, whole.0, whole.1), Delivered-certified _ _ _ _ merged certificate.outcome _ _ _ written.all written.count)

pub returns : goal.returns
returns g c a alike =
    let prices = c.as_slice-prices.ensures.value ∙ c.in-Ok.ensures in
    let merged = merged_of c.args.file.now in
    let certificate = c.in-Ok-gather.certificate in
    let is = gathered-over merged _ certificate c.args.file.now.reference c.requires prices refl c.in-Ok-gather.ensures.is_true c.in-Ok-gather.ensures.whole_grid in
    let whole = answers-alike merged a alike certificate.outcome is.outcome in
    let written = rw (c.in-Err.is, is.text) at c.write_certificate.ensures in
    (certified merged certificate.outcome, inr (certificate.outcome, whole.0, whole.1), Delivered-not_certified _ _ _ _ merged certificate.outcome _ _ _ written.failed written.part written.count)
