use Rattle.std.proofs.Common.{◌≡◌, ◌+◌, ◌≤◌, length, Option}
use Rattle.auction_file.specs.AuctionFile.{Auction, auction_of, read_lines}
use Rattle.auction_file.specs.Meaning.{IsReadSoFar}
use Rattle.auction_file.proofs.ReaderLemmas.{IsSoundBefore}
use Rattle.auction_file.proofs.reader.AuctionFile.read.Given as goal

-- what has been read stands for what the lines before have said, after which those that are left say what the file says
abbrev pub invariant-each_line : goal.invariant-each_line
invariant-each_line l = record {
  said : Option Auction;
  read : IsReadSoFar l.before said;
  rest : read_lines said l.number l.lines.left ≡ auction_of l.bytes;
  given : l.number ≡ l.lines.given + 1;
  sound : IsSoundBefore l.number said;
  limit : l.number ≤ 500001;
}

abbrev pub decreases-each_line : goal.decreases-each_line
decreases-each_line l = length l.lines.left
