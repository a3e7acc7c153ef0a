use Rattle.std.proofs.Common.{◌≡◌, ◌<◌, true, false, ◌∷◌, ◌++◌, All, refl, ap, subst, sym, ◌∙◌}
use Rattle.mkt_base.specs.Priority.{is_same_spot}
use Rattle.itayose.proofs.SharingLemmas.{is-limit, is-market, limit-some, one-left, own-limit, own-market, past-limit, past-market}
use Rattle.itayose.proofs.sharing.Sharers.pass_next.Goals as goal

pub pass-requires-else-is_market_next-clause-some : goal.pass-requires-else-is_market_next-clause-some
pass-requires-else-is_market_next-clause-some c =
    let q = c.requires in
    let w = one-left c.args.book.now q.0 q.1 q.2 c.args.self.now q.3 q.4 in
    let h = limit-some c.args.book.now q.0 q.1 q.2 c.args.self.now q.3 q.4 w.0 w.1 w.2 c.is_market_next.result c.is_market_next.ensures.both c.is_market_next.ensures.none c.is_market_next.ensures.alone c.if-is_market_next.false in
    rw h.1 refl

pub returns-then-is_market_next-clause-passed : goal.returns-then-is_market_next-clause-passed
returns-then-is_market_next-clause-passed c = λ side at rest left.
    let some : 0 < c.args.self.now.left = c.requires.4 in
    let w = one-left c.args.book.now side at rest c.args.self.now left some in
    let here = is-market c.args.book.now side at rest c.args.self.now left some w.0 w.1 w.2 c.is_market_next.result c.is_market_next.ensures.both c.is_market_next.ensures.none c.is_market_next.ensures.alone c.if-is_market_next.true in
    let same : c.pass.result.1 ≡ w.0 = own-market c.args.book.now side at rest c.args.self.now left some w.0 w.1 w.2 c.pass.result.0 c.pass.result.1 here c.pass.ensures.was c.pass.ensures.names in (
      w.1,
      w.2 ∙ ap (λ o. o ∷ w.1) (sym same),
      past-market c.args.book.now side at rest c.args.self.now left some w.0 w.1 w.2 c.pass.new.level here
          (λ s before os others split own not. c.pass.ensures.behind s before os others (split ∙ ap (λ o. before ++ o ∷ (os ++ others)) (sym same))
          (subst (λ o. All (λ y. is_same_spot o.spot y.spot ≡ true) os) (sym same) own) (subst (λ o. All (λ y. is_same_spot o.spot y.spot ≡ false) others) (sym same) not)),
    )

pub returns-else-is_market_next-clause-passed : goal.returns-else-is_market_next-clause-passed
returns-else-is_market_next-clause-passed c = λ side at rest left.
    let some : 0 < c.args.self.now.left = c.requires.4 in
    let w = one-left c.args.book.now side at rest c.args.self.now left some in
    let here = is-limit c.args.book.now side at rest c.args.self.now left some w.0 w.1 w.2 c.is_market_next.result c.is_market_next.ensures.both c.is_market_next.ensures.none c.is_market_next.ensures.alone c.if-is_market_next.false in
    let same : c.pass-else-is_market_next.result.1 ≡ w.0 =
    own-limit c.args.book.now side at rest c.args.self.now left some w.0 w.1 w.2 c.pass-else-is_market_next.result.0 c.pass-else-is_market_next.result.1 here c.pass-else-is_market_next.ensures.was c.pass-else-is_market_next.ensures.names in (
      w.1,
      w.2 ∙ ap (λ o. o ∷ w.1) (sym same),
      past-limit c.args.book.now side at rest c.args.self.now left some w.0 w.1 w.2 c.pass-else-is_market_next.new.level here
          (λ s before os others split own not. c.pass-else-is_market_next.ensures.behind s before os others (split ∙ ap (λ o. before ++ o ∷ (os ++ others)) (sym same))
          (subst (λ o. All (λ y. is_same_spot o.spot y.spot ≡ true) os) (sym same) own) (subst (λ o. All (λ y. is_same_spot o.spot y.spot ≡ false) others) (sym same) not)),
    )
