use Rattle.std.proofs.Common.{◌≡◌, ℕ, Err, refl, sym, ap, ◌∙◌, inl, inr}
use Rattle.mkt_io.specs.declared.fault.LineFault.{LineFault}
use Rattle.auction_file.specs.AuctionFile.{auction_of}
use Rattle.market_top.specs.Auction.{IsAuctionVerdict, refused_file}
use Rattle.market_top.specs.Verdict.{no_memory, unread}
use Rattle.market_top.proofs.VerdictLemmas.{Delivered-told, unread-is, unread-out}
use Rattle.market_top.proofs.auction.run_auction.Goals as goal

pub returns-in-Err-clause-verdict : goal.returns-in-Err-clause-verdict
returns-in-Err-clause-verdict g c =
    let fault = c.in-Err.fault in (
      unread fault,
      unread-is 101000000 (g.F.Shelf.files c.args.shelf.now) _ c.args.name.now IsAuctionVerdict fault (λ read. c.read_whole.ensures.failed (c.in-Err.is ∙ ap Err read)),
      Delivered-told _ _ _ _ (unread fault) _ _ _ _ (unread-out fault) c.tell_unread.ensures,
    )

pub returns-in-Err-At-clause-verdict : goal.returns-in-Err-At-clause-verdict
returns-in-Err-At-clause-verdict g c =
    let fault : ℕ × LineFault = (c.in-Err-At.line, c.in-Err-At.fault) in
    let exact = rw c.in-Err-At.field-0-is at c.in-Err-At.ensures.exact in
    let said : auction_of c.in-Ok.bytes.items ≡ Err fault = ap auction_of (sym c.deref.ensures.value) ∙ exact in (
      refused_file fault,
      inr (inr (c.in-Ok.bytes.items, c.in-Ok.ensures.bytes, rw said refl)),
      Delivered-told _ _ _ _ (refused_file fault) _ _ _ _ refl (rw (c.in-Err-At.line-is, c.in-Err-At.fault-is) at c.tell_fault.ensures),
    )

pub returns-clause-verdict : goal.returns-clause-verdict
returns-clause-verdict g c = (no_memory, inr (inl refl), Delivered-told _ _ _ _ no_memory _ _ _ _ refl c.tell.ensures)
