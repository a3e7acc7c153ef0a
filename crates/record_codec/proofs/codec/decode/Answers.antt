use Rattle.std.proofs.Common.{◌≡◌, None, sym, subst}
use Rattle.record_codec.specs.Check.{first_wrong}
use Rattle.record_codec.specs.Entry.{SpellsIn, entry_of}
use Rattle.record_codec.specs.Record.{row_of}
use Rattle.record_codec.specs.declared.row.Row.{Row}
use Rattle.mkt_base.specs.declared.event.Entry.{Entry}
use Rattle.record_codec.proofs.CheckLemmas.{IsRight}
use Rattle.record_codec.proofs.CodecLemmas.{IsRight-row_of, entry_of-spelled, first_wrong-spelled, spelled-right}
use Rattle.record_codec.proofs.FieldLemmas.{kind-within, moment-within, node-within}
use Rattle.record_codec.proofs.codec.decode.Goals as goal

-- the row that was read has no wrong field
right : (c : goal.In-None) → IsRight 1 c.args.place c.read_row-row.result
right c =
    let none : first_wrong 1 c.args.place c.args.rec.now ≡ None = cc in
    subst (λ (r : Row). IsRight 1 c.args.place r) (sym c.read_row-row.ensures) (IsRight-row_of 1 c.args.place c.args.rec.now none)

pub entry_of-requires-clause-moment : goal.entry_of-requires-clause-moment
entry_of-requires-clause-moment c = moment-within 1 c.args.place _ (right c)

pub entry_of-requires-clause-node : goal.entry_of-requires-clause-node
entry_of-requires-clause-node c = node-within 1 c.args.place _ (right c)

pub entry_of-requires-clause-kind : goal.entry_of-requires-clause-kind
entry_of-requires-clause-kind c = kind-within 1 c.args.place _ (right c)

-- a record with a wrong field spells no entry
pub returns-in-Some-clause-none : goal.returns-in-Some-clause-none
returns-in-Some-clause-none c = λ e h. let none = first_wrong-spelled 1 c.args.place c.args.rec.now e h in let some = c.first_wrong.ensures in cc

pub returns-in-Some-clause-found : goal.returns-in-Some-clause-found
returns-in-Some-clause-found c = λ e h. let none = first_wrong-spelled 1 c.args.place c.args.rec.now e h in let some = c.first_wrong.ensures in cc

pub returns-in-None-clause-spelled : goal.returns-in-None-clause-spelled
returns-in-None-clause-spelled c =
    let none : first_wrong 1 c.args.place c.args.rec.now ≡ None = cc in
    let read : entry_of (row_of c.args.rec.now) ≡ c.entry_of.result = cc in
    subst (λ (e : Entry). SpellsIn 1 c.args.rec.now c.args.place e) read
    (spelled-right 1 c.args.place c.args.rec.now c.told-rec (record { small = c.fits-rec }) none)

pub returns-in-None-clause-found : goal.returns-in-None-clause-found
returns-in-None-clause-found c = λ e h. let read = entry_of-spelled 1 c.args.place c.args.rec.now e h in cc
