use Rattle.std.proofs.Common.{◌≡◌, None, Ok, refl, ◌∙◌, arith, rules}
use Rattle.std.proofs.lemmas.Result.{err_from_is_err_and}
use Rattle.auction_file.specs.AuctionFile.{grid_read, line_entry, with_entry}
use Rattle.mkt_io.proofs.ReadLemmas.{Fails-as}
use Rattle.auction_file.proofs.ReaderLemmas.{HasRoomFor-read, IsSound-at_end, MatchResult-at_end, entry_at, fault_at, grid-same, line_entry-checked_words, line_entry-few, with_entry-IsSoundBefore}
use Rattle.auction_file.proofs.reader.AuctionFile.read.Goals as goal

pub each_line-init : goal.each_line-init
each_line-init c = record { said = None; read = tt; rest = search rules; given = search rules; sound = tt; limit = omega arith }

pub returns-in-TooLong-clause-exact : goal.returns-in-TooLong-clause-exact
returns-in-TooLong-clause-exact c =
    let before = c.each_line.invariant in
    let next = c.in-TooLong.ensures in
    let fault = line_entry-checked_words _ c.in-TooLong.line next.0 _ (c.too_long-fault.ensures next.0 next.4) in
    fault_at c.args.bytes.now before.said c.each_line.number c.each_line.lines.left before.rest
    c.in-TooLong.line next.0 _ _ next.1 (omega (arith, next.2)) fault

pub returns-in_err-entry-in-Line-clause-exact : goal.returns-in_err-entry-in-Line-clause-exact
returns-in_err-entry-in-Line-clause-exact c =
    let before = c.each_line.invariant in
    let p = err_from_is_err_and c.from_residual.result c.from_residual.ensures.1 in
    let next = c.in-Line.ensures in
    let grid : c.grid_so_far.result ≡ grid_read before.said = c.grid_so_far.ensures ∙ grid-same _ _ before.read in
    rw (p.1, p.2) (Fails-as _ _ _ (λ fault e.
    fault_at c.args.bytes.now before.said c.each_line.number c.each_line.lines.left before.rest
    c.in-Line.line c.in-Line.text.now _ fault next.0 (omega (arith, next.1)) (rw (← grid) e)) c.in_err-entry-in-Line.ensures.exact)

pub add_entry-requires : goal.add_entry-requires
add_entry-requires c =
    let before = c.each_line.invariant in
    HasRoomFor-read c.each_line.before before.said c.each_line.number c.in_ok-entry-in-Line.entry before.read before.sound before.limit
    (rw (← c.grid_so_far.ensures) c.in_ok-entry-in-Line.ensures.sound)

pub each_line-preserved : goal.each_line-preserved
each_line-preserved c =
    let before = c.each_line.invariant in
    let next = c.in-Line.ensures in
    let entry = c.in_ok-entry-in-Line.ensures in
    let grid : c.grid_so_far.result ≡ grid_read before.said = c.grid_so_far.ensures ∙ grid-same _ _ before.read in
    let here : c.each_line.number ≡ c.in-Line.line = omega (arith, next.1) in
    let said : line_entry (grid_read before.said) c.in-Line.line c.in-Line.text.now ≡ Ok c.in_ok-entry-in-Line.entry = rw (← grid) entry.exact in
    let few = line_entry-few _ _ _ _ said in
    record {
      said = with_entry before.said c.in_ok-entry-in-Line.entry;
      read = c.in_ok-add_entry-in-Line.ensures.ok before.said before.read;
      rest = entry_at c.args.bytes.now before.said c.each_line.number c.each_line.lines.left before.rest
          c.in-Line.line c.in-Line.text.now _ c.in_ok-entry-in-Line.entry _ next.0 here said refl;
      given = omega (arith, next.2);
      sound = with_entry-IsSoundBefore c.in-Line.line before.said c.in_ok-entry-in-Line.entry (rw (← here) before.sound) (rw (← grid) entry.sound);
      limit = omega (arith, few);
    }

pub returns-clause-exact : goal.returns-clause-exact
returns-clause-exact c =
    let before = c.each_line.invariant in
    rw c.ok_or.ensures.value (MatchResult-at_end c.args.bytes.now c.each_line.before before.said c.each_line.number c.each_line.lines.left before.read before.rest c.in-End.ensures.0)

pub returns-clause-sound : goal.returns-clause-sound
returns-clause-sound c =
    let before = c.each_line.invariant in
    rw c.ok_or.ensures.value (IsSound-at_end c.each_line.before before.said c.each_line.number c.each_line.number before.read before.sound before.limit)
