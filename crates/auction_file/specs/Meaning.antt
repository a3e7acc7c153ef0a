-- The auction that a value of the reader stands for.
use Rattle.std.specs.Prelude.{◌≡◌, Option, Some, None}
use Rattle.auction_law.specs.Levels.{SameLevels}
use Rattle.auction_file.specs.AuctionFile.{Auction}
use Rattle.auction_file.specs.EvenGrid.{EvenGrid}
use Rattle.auction_file.specs.LevelList.{HasRoom, StandsFor}
use Rattle.auction_file.specs.declared.reader.AuctionFile.{AuctionFile}
use Rattle.auction_file.specs.declared.reader.Entry.{Entry}
use Rattle.auction_file.specs.declared.reader.Entry.TheVariants as entries

-- the auction of what was read, whose orders are one a level
abbrev pub merged_of : AuctionFile → Auction
merged_of file = record { grid = file.grid; reference = file.reference; orders = file.levels.orders }

-- one auction has the grid and the reference of the other, and the same levels
pub record IsAlike (a b : Auction) : Type 0 where
  pub grid : a.grid ≡ b.grid
  pub reference : a.reference ≡ b.reference
  pub levels : SameLevels a.orders b.orders

-- what has been read stands for an auction whose orders are those of the lines
pub record IsReadOf (file : AuctionFile) (a : Auction) : Type 0 where
  pub grid : file.grid ≡ a.grid
  pub reference : file.reference ≡ a.reference
  pub count : file.levels.count ≡ a.grid.count
  pub orders : StandsFor file.levels.orders a.orders

-- the same, before the grid's line too
abbrev pub IsReadSoFar : Option AuctionFile → Option Auction → Type 0
IsReadSoFar None None = Unit {0}
IsReadSoFar None (Some a) = ⊥
IsReadSoFar (Some file) None = ⊥
IsReadSoFar (Some file) (Some a) = IsReadOf file a

-- the grid, where it has been read
abbrev pub grid_so_far : Option AuctionFile → Option EvenGrid
grid_so_far None = None
grid_so_far (Some file) = Some file.grid

-- there is room for an order that a line says
abbrev pub HasRoomFor : Option AuctionFile → Entry → Type 0
HasRoomFor (Some file) (entries.Order order) = HasRoom file.levels order
HasRoomFor _ _ = Unit {0}
