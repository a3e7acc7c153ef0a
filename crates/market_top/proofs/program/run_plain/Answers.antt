use Rattle.std.proofs.Common.{refl, arith, rules}
use Rattle.market_top.specs.Made.{made}
use Rattle.market_top.specs.Verdict.{refused_words}
use Rattle.market_top.proofs.VerdictLemmas.{Answered-by, Delivered-printed, Delivered-told, gen-is, refused-is}
use Rattle.market_top.proofs.program.run_plain.Goals as goal

pub returns-in-Some-Gen : goal.returns-in-Some-Gen
returns-in-Some-Gen g c =
    let number = c.in-Some-Gen.number in
    let orders = c.in-Some-Gen.orders in
    Answered-by _ _ _ _ _ _ _ _ _ _ _ _ _ _ _ (made number orders) _ (gen-is _ _ _ _ _ number orders (search (rules, c.in-Some-Gen.ensures.command)))
    (Delivered-printed _ _ _ _ (made number orders) _ _ _ _ refl c.run_gen.ensures) (omega arith)

pub returns-in-None : goal.returns-in-None
returns-in-None g c =
    Answered-by _ _ _ _ _ _ _ _ _ _ _ _ _ _ _ refused_words _ (refused-is _ _ _ _ _ c.in-None.ensures.command)
    (Delivered-told _ _ _ _ refused_words _ _ _ _ refl c.tell.ensures) (omega arith)
