-- What holds of an auction while its file is read.
use Rattle.std.proofs.Common.{◌≡◌, ℕ, ◌+◌, ◌≤◌, true, false, not, ltb, List, [], ◌∷◌, length-append, Option, Some, None, Ok, Err, IfOk, MatchResult, All, refl, sym, ap, subst, ◌∙◌, arith, rules}
use Rattle.std.proofs.lemmas.Bool.Decides.{nat_tests}
use Rattle.mkt_io.specs.LineFault.{◌>>=◌, checked_words}
use Rattle.mkt_io.specs.Read.{Fails}
use Rattle.mkt_io.proofs.ReadLemmas.{passed}
use Rattle.mkt_io.specs.declared.fault.TextFault.TheVariants as faults
use Rattle.mkt_io.specs.declared.fault.LineFault.{LineFault}
use Rattle.std.proofs.lemmas.List.Elements.{All-push}
use Rattle.auction_file.specs.AuctionFile.{Auction, IsFileAuction, IsFileEntry, IsFileOrder, IsSound, auction_of, entry_of, grid_read, line_entry, read_lines, with_entry}
use Rattle.std.specs.Option.{ok_or}
use Rattle.mkt_io.specs.declared.fault.LineFault.TheVariants.{Word}
use Rattle.auction_file.specs.EvenGrid.{EvenGrid, IsEvenGrid}
use Rattle.auction_file.specs.LevelList.{HasRoom, IsWithin}
use Rattle.auction_file.specs.Meaning.{HasRoomFor, IsAlike, IsReadOf, IsReadSoFar, grid_so_far, merged_of}
use Rattle.mkt_base.specs.Book.{is_buy}
use Rattle.mkt_base.specs.declared.order.Order.{Order}
use Rattle.auction_file.proofs.EvenGridLemmas.{IsRising-grid_prices, length-grid_prices}
use Rattle.auction_file.proofs.OrderLemmas.{levels_on_grid, orders_fit, total_left-le}
use Rattle.auction_file.specs.declared.reader.AuctionFile.{AuctionFile}
use Rattle.auction_file.specs.declared.reader.Entry.{Entry}
use Rattle.auction_file.specs.declared.reader.Entry.TheVariants as entries

-- what holds of what has been read before the line with this number
abbrev pub IsSoundBefore : ℕ → Option Auction → Type 0
IsSoundBefore number None = Unit {0}
IsSoundBefore number (Some auction) = IsFileAuction number auction

-- no line after the limit says anything
pub line_entry-few : (before : Option EvenGrid) (number : ℕ) (line : List ℕ) (entry : Entry) → line_entry before number line ≡ Ok entry → number ≤ 500000
unfolding line_entry checked_words
line_entry-few before number line entry e =
    let few : ltb 500000 number ≡ false = passed (ltb 500000 number) number _ _ (entry_of before number) entry e in
    grind (arith, nat_tests)

-- one line more keeps what holds
pub with_entry-IsSoundBefore : (number : ℕ) (before : Option Auction) (entry : Entry) → IsSoundBefore number before → IsFileEntry (grid_read before) entry → IsSoundBefore (number + 1) (with_entry before entry)
with_entry-IsSoundBefore number None entries.Skipped sound fits = tt
with_entry-IsSoundBefore number (Some auction) entries.Skipped sound fits =
    record { grid = sound.grid; reference = sound.reference; orders = sound.orders; few = omega (arith, sound.few) }
with_entry-IsSoundBefore number before (entries.Grid grid position) sound fits =
    record { grid = fits.0; reference = fits.1; orders = search rules; few = omega arith }
with_entry-IsSoundBefore number None (entries.Order order) sound fits = tt
with_entry-IsSoundBefore number (Some auction) (entries.Order order) sound fits =
    record {
      grid = sound.grid;
      reference = sound.reference;
      orders = All-push (IsFileOrder auction.grid) auction.orders order sound.orders fits;
      few = omega (arith, sound.few, length-append auction.orders (order ∷ []));
    }

-- the first line that is left, and then the others
pub read_lines-cons : (before : Option Auction) (number : ℕ) (line : List ℕ) (more : List (List ℕ))
    → read_lines before number (line ∷ more) ≡ (line_entry (grid_read before) number line >>= λ entry. read_lines (with_entry before entry) (number + 1) more)
unfolding read_lines
read_lines-cons None number line more = refl
read_lines-cons (Some auction) number line more = refl

pub read_lines-entry : (before : Option Auction) (number : ℕ) (line : List ℕ) (more : List (List ℕ)) (entry : Entry)
    → line_entry (grid_read before) number line ≡ Ok entry → read_lines before number (line ∷ more) ≡ read_lines (with_entry before entry) (number + 1) more
read_lines-entry before number line more entry e = rw (read_lines-cons, e) refl

pub read_lines-fault : (before : Option Auction) (number : ℕ) (line : List ℕ) (more : List (List ℕ)) (fault : ℕ × LineFault)
    → line_entry (grid_read before) number line ≡ Err fault → read_lines before number (line ∷ more) ≡ Err fault
read_lines-fault before number line more fault e = rw (read_lines-cons, e) refl

-- a line whose own tests fail says nothing else
pub line_entry-checked_words : (before : Option EvenGrid) (number : ℕ) (line : List ℕ) (fault : LineFault)
    → checked_words number line ≡ Err fault → line_entry before number line ≡ Err (number, fault)
unfolding line_entry
line_entry-checked_words before number line fault e = rw e refl

-- what the file says, where it says what the lines that are left say
module _ (bytes : List ℕ) (before : Option Auction) (number : ℕ) (left : List (List ℕ)) (rest : read_lines before number left ≡ auction_of bytes) where
  -- the next line's fault is the file's
  pub fault_at : (here : ℕ) (line : List ℕ) (more : List (List ℕ)) (fault : ℕ × LineFault) → left ≡ line ∷ more → number ≡ here
      → line_entry (grid_read before) here line ≡ Err fault → auction_of bytes ≡ Err fault
  fault_at here line more fault next same e =
      sym rest ∙ ap (read_lines before number) next ∙ ap (λ n. read_lines before n (line ∷ more)) same ∙ read_lines-fault before here line more fault e

  -- after the next line's entry the others say what the file says
  pub entry_at : (here : ℕ) (line : List ℕ) (more : List (List ℕ)) (entry : Entry) (after : Option Auction) → left ≡ line ∷ more → number ≡ here
      → line_entry (grid_read before) here line ≡ Ok entry → after ≡ with_entry before entry → read_lines after (here + 1) more ≡ auction_of bytes
  entry_at here line more entry after next same e is =
      ap (λ a. read_lines a (here + 1) more) is ∙ sym (read_lines-entry before here line more entry e)
      ∙ sym (ap (λ n. read_lines before n (line ∷ more)) same) ∙ sym (ap (read_lines before number) next) ∙ rest

-- where no line is left, what has been read stands for what the file says
pub MatchResult-at_end : (bytes : List ℕ) (before : Option AuctionFile) (said : Option Auction) (number : ℕ) (left : List (List ℕ)) → IsReadSoFar before said
    → read_lines said number left ≡ auction_of bytes → left ≡ []
    → MatchResult (ok_or before (faults.At number Word)) (λ file. (a : Auction) × (auction_of bytes ≡ Ok a) × IsAlike (merged_of file) a) (λ e. Fails e (auction_of bytes))
unfolding read_lines
MatchResult-at_end bytes None None number left read rest none = sym rest ∙ ap (read_lines None number) none
MatchResult-at_end bytes None (Some a) number left read rest none = absurd read
MatchResult-at_end bytes (Some file) None number left read rest none = absurd read
MatchResult-at_end bytes (Some file) (Some a) number left read rest none =
    (a, sym rest ∙ ap (read_lines (Some a) number) none, record { grid = read.grid; reference = read.reference; levels = read.orders.levels })

-- what has been read of the grid
pub grid-same : (before : Option AuctionFile) (said : Option Auction) → IsReadSoFar before said → grid_so_far before ≡ grid_read said
grid-same None None read = refl
grid-same None (Some a) read = absurd read
grid-same (Some file) None read = absurd read
grid-same (Some file) (Some a) read = ap Some read.grid

-- there is room for one order more
HasRoom-read : (file : AuctionFile) (a : Auction) (number : ℕ) (order : Order) → IsReadOf file a → IsFileAuction number a → number ≤ 500001 → IsFileOrder file.grid order
    → HasRoom file.levels order
HasRoom-read file a number order read sound limit is = record {
  within = subst (λ count. IsWithin count order.spot) (ap (λ (g : EvenGrid). g.count) read.grid ∙ sym read.count) is.spot;
  left = is.left;
  few = omega (arith, read.orders.few, sound.few);
  fits = omega (arith, read.orders.levels.sums (λ side spot. true), total_left-le a.grid (λ o. true) a.orders sound.orders, sound.few, is.limit);
}

pub HasRoomFor-read : (before : Option AuctionFile) (said : Option Auction) (number : ℕ) (entry : Entry) → IsReadSoFar before said → IsSoundBefore number said → number ≤ 500001
    → IsFileEntry (grid_so_far before) entry → HasRoomFor before entry
HasRoomFor-read None said number entry read sound limit fits = tt
HasRoomFor-read (Some file) None number entry read sound limit fits = absurd read
HasRoomFor-read (Some file) (Some a) number entries.Skipped read sound limit fits = tt
HasRoomFor-read (Some file) (Some a) number (entries.Grid grid position) read sound limit fits = tt
HasRoomFor-read (Some file) (Some a) number (entries.Order order) read sound limit fits = HasRoom-read file a number order read sound limit fits

-- at most 500,000 lines give a sound auction
IsSound-read : (file : AuctionFile) (a : Auction) (number : ℕ) → IsReadOf file a → IsFileAuction number a → number ≤ 500001 → IsSound (merged_of file)
IsSound-read file a number read sound limit =
    let same : file.grid.count ≡ a.grid.count = ap (λ (g : EvenGrid). g.count) read.grid in
    let grid : IsEvenGrid file.grid = subst IsEvenGrid (sym read.grid) sound.grid in
    let fits = orders_fit a.grid a.orders sound.orders (omega (arith, sound.few)) in
    record {
      grid = grid;
      prices = length-grid_prices file.grid;
      reference = omega (arith, read.reference, sound.reference, same);
      rising = IsRising-grid_prices file.grid grid;
      on_grid = levels_on_grid file.grid file.levels.orders a.orders read.orders.levels (subst (λ g. All (IsFileOrder g) a.orders) (sym read.grid) sound.orders);
      left = read.orders.left;
      fits = record {
        bought = omega (arith, read.orders.levels.sums (λ side spot. is_buy side), fits.bought);
        sold = omega (arith, read.orders.levels.sums (λ side spot. not (is_buy side)), fits.sold);
      };
    }

-- what has been read at the end is sound
pub IsSound-at_end : (before : Option AuctionFile) (said : Option Auction) (number last : ℕ) → IsReadSoFar before said → IsSoundBefore number said → number ≤ 500001
    → IfOk (ok_or before (faults.At last Word)) (λ file. IsSound (merged_of file))
IsSound-at_end None said number last read sound limit = tt
IsSound-at_end (Some file) None number last read sound limit = absurd read
IsSound-at_end (Some file) (Some a) number last read sound limit = IsSound-read file a number read sound limit
