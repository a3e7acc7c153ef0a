use Rattle.std.proofs.Common.{sym}
use Rattle.mkt_io.proofs.DecimalLemmas.{length-decimal-1, length-decimal-2, length-decimal-3, length-decimal-4}
use Rattle.mkt_io.proofs.text.short_count.Goals as goal

pub returns-then-n-lt10 : goal.returns-then-n-lt10
returns-then-n-lt10 c = sym (length-decimal-1 c.args.n c.if-n-lt10.true)

pub returns-then-n-lt100 : goal.returns-then-n-lt100
returns-then-n-lt100 c = sym (length-decimal-2 c.args.n c.if-n-lt10.false c.if-n-lt100.true)

pub returns-then-n-lt1000 : goal.returns-then-n-lt1000
returns-then-n-lt1000 c = sym (length-decimal-3 c.args.n c.if-n-lt100.false c.if-n-lt1000.true)

pub returns-else-n-lt1000 : goal.returns-else-n-lt1000
returns-else-n-lt1000 c = sym (length-decimal-4 c.args.n c.if-n-lt1000.false c.requires)
