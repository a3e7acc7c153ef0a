-- A record: 48 bytes, its fields one after another from their offsets on, each a big-endian number, and zeros behind them.
use Rattle.std.specs.Prelude.{ℕ, ◌+◌, List, [], ◌∷◌, ◌++◌, replicate, slice_index}
use Rattle.std.specs.Int.{w16, w32, w64, from_be_bytes, to_be_bytes}
use Rattle.record_codec.specs.declared.row.Row.{Row}

-- two, four and eight bytes
unfoldable pub two_bytes : ℕ → List ℕ
two_bytes n = to_be_bytes w16 n

unfoldable pub four_bytes : ℕ → List ℕ
four_bytes n = to_be_bytes w32 n

unfoldable pub eight_bytes : ℕ → List ℕ
eight_bytes n = to_be_bytes w64 n

-- the bytes of a record: the fields from the offsets 0, 1, 2, 4 and 8, from 16, 18, 19, 20, 24 and 28, and from 32 and 36;
-- the bytes from 37 on are zero
unfoldable pub bytes_of : Row → List ℕ
bytes_of r =
    r.form ∷ r.kind ∷ [] ++ two_bytes r.caller ++ four_bytes r.own ++ eight_bytes r.place
    ++ two_bytes r.participant ++ r.side ∷ r.limit ∷ [] ++ four_bytes r.price ++ four_bytes r.quantity ++ four_bytes r.target
    ++ four_bytes r.moment ++ r.node ∷ [] ++ replicate 11 0

-- the byte at an offset
abbrev pub byte_at : List ℕ → ℕ → ℕ
byte_at rec i = slice_index rec i

-- the numbers of the two, four and eight bytes from an offset on
unfoldable pub two_at : List ℕ → ℕ → ℕ
two_at rec i = from_be_bytes w16 (byte_at rec i ∷ byte_at rec (i + 1) ∷ [])

unfoldable pub four_at : List ℕ → ℕ → ℕ
four_at rec i = from_be_bytes w32 (byte_at rec i ∷ byte_at rec (i + 1) ∷ byte_at rec (i + 2) ∷ byte_at rec (i + 3) ∷ [])

unfoldable pub eight_at : List ℕ → ℕ → ℕ
eight_at rec i =
    from_be_bytes w64 (byte_at rec i ∷ byte_at rec (i + 1) ∷ byte_at rec (i + 2) ∷ byte_at rec (i + 3)
    ∷ byte_at rec (i + 4) ∷ byte_at rec (i + 5) ∷ byte_at rec (i + 6) ∷ byte_at rec (i + 7) ∷ [])

-- what the fields of a record say
unfoldable pub row_of : List ℕ → Row
row_of rec = record {
  form = byte_at rec 0;
  kind = byte_at rec 1;
  caller = two_at rec 2;
  own = four_at rec 4;
  place = eight_at rec 8;
  participant = two_at rec 16;
  side = byte_at rec 18;
  limit = byte_at rec 19;
  price = four_at rec 20;
  quantity = four_at rec 24;
  target = four_at rec 28;
  moment = four_at rec 32;
  node = byte_at rec 36;
}
