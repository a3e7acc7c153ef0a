-- What a call of the program answers: a status and two texts, and what became of them.
use Rattle.std.specs.Prelude.{◌≡◌, ◌⊎◌, ◌+◌, ◌≤◌, ℕ, List, [], ◌∷◌, take, Option, IfSome, IsSomeAnd, codes}
use Rattle.std.specs.Io.KnownBytes.{Appends}
use Rattle.mkt_base.specs.Text.{line}
use Rattle.mkt_io.specs.Faults.{Rises}
use Rattle.mkt_io.specs.Sink.{AppendsPart}
use Rattle.mkt_io.specs.declared.shelf.ReadFault.{ReadFault}
use Rattle.mkt_io.specs.declared.shelf.ReadFault.TheVariants.{Read, Memory}

-- a status, what goes to standard output for it, and what to standard error
pub record Verdict : Type 0 where
  pub status : ℕ
  pub out : List ℕ
  pub err : List ℕ

-- the commands
abbrev pub usage : List ℕ
usage = line (codes "usage: auction FILE | check RULES | replay RULES SCRIPT | replay --gen NUMBER ORDERS RULES | run RULES SCRIPT | audit RULES REPORT | gen NUMBER ORDERS" ∷ [])

-- the words are none of the known ones
abbrev pub refused_words : Verdict
refused_words = record { status = 2; out = []; err = usage }

-- the file was not read
abbrev pub not_read : Verdict
not_read = record { status = 3; out = []; err = line (codes "read" ∷ []) }

-- there was no memory
abbrev pub no_memory : Verdict
no_memory = record { status = 5; out = []; err = line (codes "memory" ∷ []) }

-- there are no bytes of a file
abbrev pub unread : ReadFault → Verdict
unread Read = not_read
unread Memory = no_memory

-- the bytes that are read of a file, where the shelf tells them: up to the limit, and one more
abbrev pub IsRead : ℕ → Option (List ℕ → Option (List ℕ)) → List ℕ → List ℕ → Type 0
IsRead limit files name bytes = IfSome files (λ file. IsSomeAnd (file name) (λ all. bytes ≡ take (limit + 1) all))

-- The verdict where a file of this name is read: it was not read, which comes only where the shelf failed; or there was
-- no memory; or it is a verdict on the bytes read.
abbrev pub OnFile : ℕ → Option (List ℕ → Option (List ℕ)) → Type 0 → List ℕ → (List ℕ → Verdict → Type 0) → Verdict → Type 0
OnFile limit files shelf_failed name on v =
    ((v ≡ not_read) × shelf_failed) ⊎ (v ≡ no_memory) ⊎ ((bytes : List ℕ) × IsRead limit files name bytes × on bytes v)

-- The verdict's texts are written and its status is answered; or a sink failed, the status is 4, and each sink holds a front
-- part of its text. No sink's count of faults falls.
pub record Delivered {O E : Type 0} (out : O → Option (List ℕ)) (out_faults : O → ℕ) (err : E → Option (List ℕ)) (err_faults : E → ℕ) (v : Verdict) (o : O) (e : E) (o' : O) (e' : E) (status : ℕ) : Type 0 where
  pub answer : ((status ≡ v.status) × Appends (out o) (out o') v.out × Appends (err e) (err e') v.err)
      ⊎ ((status ≡ 4) × (Rises (out_faults o) (out_faults o') ⊎ Rises (err_faults e) (err_faults e')) × AppendsPart (out o) (out o') v.out × AppendsPart (err e) (err e') v.err)
  pub out_count : out_faults o ≤ out_faults o'
  pub err_count : err_faults e ≤ err_faults e'

-- a text is written to a sink and the status answered; or the sink failed, the answer is 4, and a front part is written
pub record Told {S : Type 0} (contents : S → Option (List ℕ)) (faults : S → ℕ) (text : List ℕ) (status : ℕ) (s s' : S) (answered : ℕ) : Type 0 where
  pub answer : ((answered ≡ status) × Appends (contents s) (contents s') text)
      ⊎ ((answered ≡ 4) × Rises (faults s) (faults s') × AppendsPart (contents s) (contents s') text)
  pub count : faults s ≤ faults s'
