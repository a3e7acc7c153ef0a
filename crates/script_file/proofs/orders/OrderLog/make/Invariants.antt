use Rattle.std.proofs.Common.{◌≡◌, [], map, replicate}
use Rattle.script_file.proofs.orders.OrderLog.make.Given as goal

-- so many empty rows
abbrev pub invariant-loop : goal.invariant-loop
invariant-loop l = map (λ row. row.items) l.rows.items ≡ replicate l.counter []
