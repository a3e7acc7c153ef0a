use Rattle.std.proofs.Common.{rules}
use Rattle.record_codec.specs.Entry.{spelling_in}
use Rattle.record_codec.proofs.codec.encode.Goals as goal

pub returns-clause-bytes : goal.returns-clause-bytes
unfolding spelling_in
returns-clause-bytes c = search rules
