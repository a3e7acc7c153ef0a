use Rattle.std.proofs.Common.{ap}
use Rattle.std.proofs.lemmas.Bool.{false≢true}
use Rattle.std.specs.Option.{ok_or}
use Rattle.rules_file.proofs.FormLemmas.{document_of-read, document_of-refused}
use Rattle.rules_file.specs.declared.fault.RulesFault.TheVariants.{NotToml}
use Rattle.rules_file.proofs.value.document_of.Goals as goal

pub returns-in-Ok : goal.returns-in-Ok
returns-in-Ok c = ap (λ table. ok_or table NotToml) (document_of-read c.args.bytes.now _ c.in-Ok.ensures.ok.0 c.in-Ok.ensures.ok.1)

pub returns-in-Err-2 : goal.returns-in-Err-2
returns-in-Err-2 c =
    ap (λ table. ok_or table NotToml)
    (document_of-refused c.args.bytes.now (c.in-Err.ensures.refused (λ m. false≢true (rw c.if-is_memory.false at c.is_memory.ensures.1 m))))
