-- Laws of spellings: each is the clause of a function of the same name.
use Rattle.std.specs.Prelude.{◌≡◌, ℕ, List}
use Rattle.mkt_base.specs.declared.event.Entry.{Entry}
use Rattle.record_codec.specs.Entry.{SpellsIn}

-- an entry has one spelling at a place
abbrev pub OneSpelling : Type 0
OneSpelling = (form place : ℕ) (rec rec' : List ℕ) (e : Entry) → SpellsIn form rec place e → SpellsIn form rec' place e → rec ≡ rec'

-- two entries never share a spelling, at whatever places
abbrev pub NoSharedSpelling : Type 0
NoSharedSpelling = (form place place' : ℕ) (rec : List ℕ) (e e' : Entry) → SpellsIn form rec place e → SpellsIn form rec place' e' → e ≡ e'
