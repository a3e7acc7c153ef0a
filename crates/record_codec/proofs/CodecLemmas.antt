-- A record has no wrong field exactly where it is a spelling of the entry that is read from it.
use Rattle.std.proofs.Common.{◌≡◌, ℕ, List, None, length, sym, ap, ◌∙◌, arith}
use Rattle.std.proofs.lemmas.Bool.Decides.{nat_tests}
use Rattle.mkt_base.specs.declared.event.Entry.{Entry}
use Rattle.record_codec.specs.Check.{checks, first_false, first_wrong}
use Rattle.record_codec.specs.Entry.{SpellsIn, entry_of, fields_of, spelling_in}
use Rattle.record_codec.specs.Record.{bytes_of, row_of}
use Rattle.record_codec.proofs.ByteLemmas.{AreBytes, Fits-row_of, bytes_of-row_of, first_used-bytes_of, row_of-bytes_of}
use Rattle.record_codec.proofs.CheckLemmas.{IsRight, IsRight-from, IsRight-none, first-none, second-none}
use Rattle.record_codec.proofs.FieldLemmas.{Fits-fields_of, IsEntry-entry_of, IsRight-fields_of, entry_of-fields_of, fields_of-entry_of}

module _ (form place : ℕ) (rec : List ℕ) where
  -- no field of a spelling is wrong
  pub first_wrong-spelled : (e : Entry) → SpellsIn form rec place e → first_wrong form place rec ≡ None
  unfolding first_wrong spelling_in
  first_wrong-spelled e h =
      let right : first_false (checks form e.place (fields_of form e)) ≡ None = IsRight-none form e.place (fields_of form e) (IsRight-fields_of form e h.numbers) in
      rw (h.bytes, row_of-bytes_of (fields_of form e) (Fits-fields_of form e h.numbers), ← h.place_is, right) (first_used-bytes_of (fields_of form e))

  -- the entry is read back from its spelling
  pub entry_of-spelled : (e : Entry) → SpellsIn form rec place e → entry_of (row_of rec) ≡ e
  unfolding spelling_in
  entry_of-spelled e h = rw (h.bytes, row_of-bytes_of (fields_of form e) (Fits-fields_of form e h.numbers)) (entry_of-fields_of form e)

  -- a record with no wrong field has right fields
  pub IsRight-row_of : first_wrong form place rec ≡ None → IsRight form place (row_of rec)
  unfolding first_wrong
  IsRight-row_of h = IsRight-from form place (row_of rec) (first-none _ _ h)

  -- it is the spelling of the entry that is read from it
  pub spelled-right : length rec ≡ 48 → AreBytes rec → first_wrong form place rec ≡ None → SpellsIn form rec place (entry_of (row_of rec))
  unfolding first_wrong spelling_in
  spelled-right len bytes h =
      let right = IsRight-row_of h in
      record {
        numbers = IsEntry-entry_of form place (row_of rec) right (Fits-row_of rec bytes);
        place_is = grind (arith, nat_tests, right.place);
        bytes = sym (bytes_of-row_of rec len bytes (second-none _ _ h)) ∙ sym (ap bytes_of (fields_of-entry_of form place (row_of rec) right));
      }
