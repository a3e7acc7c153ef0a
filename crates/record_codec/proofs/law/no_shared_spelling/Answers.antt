use Rattle.std.proofs.Common.{sym, ◌∙◌}
use Rattle.record_codec.proofs.CodecLemmas.{entry_of-spelled}
use Rattle.record_codec.proofs.law.no_shared_spelling.Goals as goal

pub returns : goal.returns
returns c = λ form place place' rec e e' h h'. sym (entry_of-spelled form place rec e h) ∙ entry_of-spelled form place' rec e' h'
