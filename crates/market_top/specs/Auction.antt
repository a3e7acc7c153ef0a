-- What the command `auction` answers.
use Rattle.std.specs.Prelude.{◌≡◌, ℕ, ◌-◌, [], ◌∷◌, Result, Ok, Err, codes, List}
use Rattle.std.specs.Fmt.{decimal}
use Rattle.mkt_base.specs.Text.{line}
use Rattle.mkt_base.specs.Book.{price_at}
use Rattle.mkt_base.specs.Certificate.{certificate_text}
use Rattle.mkt_base.specs.declared.auction.Outcome.{Outcome}
use Rattle.mkt_io.specs.LineFault.{fault_number}
use Rattle.mkt_io.specs.declared.fault.LineFault.{LineFault}
use Rattle.auction_law.specs.Attempt.{IsAttempt, certificate_of}
use Rattle.auction_file.specs.EvenGrid.{grid_prices}
use Rattle.auction_file.specs.AuctionFile.{Auction, auction_of}
use Rattle.market_top.specs.Verdict.{Verdict}

-- the line of a file's first fault
abbrev pub fault_line : ℕ × LineFault → List ℕ
fault_line fault = line (codes "auction" ∷ decimal fault.0 ∷ decimal (fault_number fault.1) ∷ [])

-- the file is refused for its first fault
abbrev pub refused_file : ℕ × LineFault → Verdict
refused_file fault = record { status = 1; out = []; err = fault_line fault }

-- the lines of the certificate of an outcome
abbrev pub certified : Auction → Outcome → Verdict
certified a outcome =
    let grid = grid_prices a.grid in
    record { status = 0; out = certificate_text (certificate_of grid a.orders (price_at grid a.reference) outcome); err = [] }

-- the attempt of an auction over its whole grid has this outcome
abbrev pub IsOutcome : Auction → Outcome → Type 0
IsOutcome a outcome =
    let grid = grid_prices a.grid in
    IsAttempt grid a.orders (price_at grid a.reference) (price_at grid 0) (price_at grid (a.grid.count - 1)) outcome

-- a file that is refused is told its first fault; of any other the certificate of its attempt is written
abbrev pub IsFileVerdict : Result Auction (ℕ × LineFault) → Verdict → Type 0
IsFileVerdict (Err fault) v = v ≡ refused_file fault
IsFileVerdict (Ok a) v = (outcome : Outcome) × IsOutcome a outcome × (v ≡ certified a outcome)

-- the verdict on the bytes of an auction file
abbrev pub IsAuctionVerdict : List ℕ → Verdict → Type 0
IsAuctionVerdict bytes v = IsFileVerdict (auction_of bytes) v
