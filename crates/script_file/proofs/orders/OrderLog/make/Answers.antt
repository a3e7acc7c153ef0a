use Rattle.std.proofs.Common.{◌≡◌, [], replicate, ap, ◌∙◌, arith}
use Rattle.script_file.proofs.orders.OrderLog.make.Goals as goal

pub returns : goal.returns
returns c =
    let whole : c.loop.counter ≡ 1088 = omega arith in
    c.loop.invariant ∙ ap (λ n. replicate n []) whole
