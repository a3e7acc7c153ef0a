use Rattle.std.proofs.lemmas.Result.{err_from_is_err_and}
use Rattle.script_file.proofs.OrderLemmas.{row-kept, row-pushed}
use Rattle.script_file.proofs.orders.push_at.Goals as goal

pub returns-in_err-push : goal.returns-in_err-push
returns-in_err-push c =
    let p = err_from_is_err_and c.from_residual.result c.from_residual.ensures.1 in
    rw (p.1, p.2) (row-kept (λ row. row.items) c.args.rows.now.items c.args.at c.index_mut-row.result.now c.push.new.self c.requires c.index_mut-row.ensures.value c.in_err-push.ensures.items)

pub returns : goal.returns
returns c =
    row-pushed (λ row. row.items) c.args.rows.now.items c.args.at c.index_mut-row.result.now c.push.new.self c.requires c.index_mut-row.ensures.value c.args.item c.in_ok-push.ensures.items
