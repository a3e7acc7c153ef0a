-- What an auction file says: a grid with its reference and orders in the order of their lines, or its first fault.
use Rattle.std.specs.Prelude.{◌≡◌, ℕ, ◌+◌, ◌-◌, ◌*◌, ◌<◌, ◌≤◌, List, [], ◌∷◌, ◌++◌, length, Option, Some, None, Result, Ok, Err, if◌then◌else◌, nat_le, codes, All}
use Rattle.std.specs.Option.{ok_or}
use Rattle.std.specs.Str.{bytes_eq}
use Rattle.mkt_base.specs.Book.{FitsSums, IsOnGrid, IsRising}
use Rattle.mkt_base.specs.declared.order.Side.{Side}
use Rattle.mkt_base.specs.declared.order.Spot.{Spot}
use Rattle.mkt_base.specs.declared.order.Spot.TheVariants.{Market, At}
use Rattle.mkt_base.specs.declared.order.Order.{Order}
use Rattle.mkt_io.specs.Lines.{lines}
use Rattle.mkt_io.specs.Words.{number_of}
use Rattle.mkt_io.specs.LineFault.{◌>>=◌, at_line, checked_words, is_skipped, next_number, no_more, side_of, wanted}
use Rattle.mkt_io.specs.declared.fault.LineFault.{LineFault}
use Rattle.mkt_io.specs.declared.fault.LineFault.TheVariants.{Word, Number}
use Rattle.auction_file.specs.EvenGrid.{EvenGrid, IsEvenGrid, grid_prices, position_on}
use Rattle.auction_file.specs.LevelList.{IsWithin}
use Rattle.auction_file.specs.declared.reader.Entry.{Entry}
use Rattle.auction_file.specs.declared.reader.Entry.TheVariants as entries

-- COUNT prices from LOW on, TICK apart; the last of them has a limit
unfoldable pub grid_from : ℕ → ℕ → ℕ → Result EvenGrid LineFault
grid_from low tick count =
    if nat_le (low + (count - 1) * tick) 1000000000 then Ok (record { low = low; tick = tick; count = count }) else Err Number

-- the position of a price on the grid
unfoldable pub position_in : EvenGrid → List ℕ → Result ℕ LineFault
position_in grid word = price_on (number_of word)
  where
    price_on : Option ℕ → Result ℕ LineFault
    price_on None = Err Number
    price_on (Some p) = ok_or (position_on grid p) Number

-- after `grid`: LOW TICK COUNT REFERENCE
unfoldable pub grid_line : List (List ℕ) → Result Entry LineFault
grid_line words = do
  low ← next_number 1 1000000000 words
  tick ← next_number 1 1000000 low.1
  count ← next_number 1 20000 tick.1
  grid ← grid_from low.0 tick.0 count.0
  reference ← wanted count.1
  position ← position_in grid reference.0
  end ← no_more reference.1
  Ok (entries.Grid grid position)

-- `market`, or a price on the grid
unfoldable pub spot_of : EvenGrid → List ℕ → Result Spot LineFault
spot_of grid word = if bytes_eq word (codes "market") then Ok Market else (position_in grid word >>= λ position. Ok (At position))

-- after `buy` or `sell`: QTY market, or QTY PRICE; the line's number ranks the order in time
unfoldable pub order_line : EvenGrid → Side → ℕ → List (List ℕ) → Result Entry LineFault
order_line grid side number words = do
  quantity ← next_number 1 100000000 words
  kind ← wanted quantity.1
  spot ← spot_of grid kind.0
  end ← no_more kind.1
  Ok (entries.Order (record { place = number; caller = record { 0 = 0 }; own = number; participant = record { 0 = 0 }; side = side; spot = spot; left = quantity.0 }))

-- what a line that is not skipped says: the first gives the grid, every further one an order
unfoldable pub said_by : Option EvenGrid → ℕ → List (List ℕ) → Result Entry LineFault
said_by before number [] = Err Word
said_by None number (word ∷ words) = if bytes_eq word (codes "grid") then grid_line words else Err Word
said_by (Some grid) number (word ∷ words) = side_of word >>= λ side. order_line grid side number words

-- what a line with these words says, after the grid where that has been read
unfoldable pub entry_of : Option EvenGrid → ℕ → List (List ℕ) → Result Entry LineFault
entry_of before number words = if is_skipped words then Ok entries.Skipped else said_by before number words

-- an auction: the grid, the position of the reference on it, and the orders by place
pub record Auction : Type 0 where
  pub grid : EvenGrid
  pub reference : ℕ
  pub orders : List Order

-- the grid, where it has been read
abbrev pub grid_read : Option Auction → Option EvenGrid
grid_read None = None
grid_read (Some auction) = Some auction.grid

-- what has been read, with one line more
abbrev pub with_entry : Option Auction → Entry → Option Auction
with_entry before entries.Skipped = before
with_entry before (entries.Grid grid position) = Some (record { grid = grid; reference = position; orders = [] })
with_entry None (entries.Order order) = None
with_entry (Some auction) (entries.Order order) = Some (record auction { orders = auction.orders ++ order ∷ [] })

-- what a line says, with its number at a fault
unfoldable pub line_entry : Option EvenGrid → ℕ → List ℕ → Result Entry (ℕ × LineFault)
line_entry before number line = at_line number (checked_words number line >>= entry_of before number)

-- The lines from this number on, after what has been read of the lines before them. A file without a line that says
-- something lacks a word at the line after its last.
unfoldable pub read_lines : Option Auction → ℕ → List (List ℕ) → Result Auction (ℕ × LineFault)
read_lines None number [] = Err (number, Word)
read_lines (Some auction) number [] = Ok auction
read_lines before number (line ∷ more) = do
  entry ← line_entry (grid_read before) number line
  read_lines (with_entry before entry) (number + 1) more

-- what the bytes of an auction file say, or its first fault with the number of the line
abbrev pub auction_of : List ℕ → Result Auction (ℕ × LineFault)
auction_of bytes = read_lines None 1 (lines bytes)

-- what holds of each order of an auction that was read
pub record IsFileOrder (grid : EvenGrid) (o : Order) : Type 0 where
  pub spot : IsWithin grid.count o.spot
  pub left : 1 ≤ o.left
  pub limit : o.left ≤ 100000000

-- what holds of what a line says, after the grid where that has been read
abbrev pub IsFileEntry : Option EvenGrid → Entry → Type 0
IsFileEntry before entries.Skipped = Unit {0}
IsFileEntry before (entries.Grid grid position) = IsEvenGrid grid × (position < grid.count)
IsFileEntry None (entries.Order order) = ⊥
IsFileEntry (Some grid) (entries.Order order) = IsFileOrder grid order

-- what holds of an auction that was read, at the line with this number
pub record IsFileAuction (number : ℕ) (auction : Auction) : Type 0 where
  pub grid : IsEvenGrid auction.grid
  pub reference : auction.reference < auction.grid.count
  pub orders : All (IsFileOrder auction.grid) auction.orders
  pub few : length auction.orders < number

-- what holds of each auction that was read: all that an attempt over its whole grid needs
pub record IsSound (auction : Auction) : Type 0 where
  pub grid : IsEvenGrid auction.grid
  pub prices : length (grid_prices auction.grid) ≡ auction.grid.count
  pub reference : auction.reference < auction.grid.count
  pub rising : IsRising (grid_prices auction.grid)
  pub on_grid : All (λ o. IsOnGrid (grid_prices auction.grid) o.spot) auction.orders
  pub left : All (λ o. 0 < o.left) auction.orders
  pub fits : FitsSums auction.orders
