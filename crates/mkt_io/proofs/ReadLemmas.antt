-- What any reader of a text file needs of its faults and numbers.
use Rattle.std.proofs.Common.{◌≡◌, ℕ, ◌≤◌, Bool, true, false, cond, List, Result, Ok, Err, IfOk, refl, arith}
use Rattle.std.proofs.lemmas.Bool.Decides.{nat_tests}
use Rattle.mkt_io.specs.LineFault.{◌>>=◌, at_line, number_in}
use Rattle.mkt_io.specs.Read.{Fails}
use Rattle.mkt_io.specs.declared.fault.LineFault.{LineFault}
use Rattle.mkt_io.specs.declared.fault.TextFault.{TextFault}
use Rattle.mkt_io.specs.declared.fault.TextFault.TheVariants.{At, Memory}

-- a number that is taken lies in its range
pub number_in-range : (low high : ℕ) (word : List ℕ) → IfOk (number_in low high word) (λ n. (low ≤ n) × (n ≤ high))
unfolding number_in
number_in-range low high word = grind (arith, nat_tests)

-- a step that fails at a test gives an answer only where the test is false
pub passed : {A B : Type 0} (b : Bool) (number : ℕ) (fault : LineFault) (read : Result A LineFault) (then : A → Result B LineFault) (x : B)
    → at_line number (cond b (Err fault) read >>= then) ≡ Ok x → b ≡ false
passed true number fault read then x e = cc
passed false number fault read then x e = refl

-- a fault of one reading is a fault of the other
pub Fails-as : {A B : Type 0} (e : TextFault) (read : Result A (ℕ × LineFault)) (all : Result B (ℕ × LineFault))
    → ((fault : ℕ × LineFault) → read ≡ Err fault → all ≡ Err fault) → Fails e read → Fails e all
Fails-as (At line fault) read all same fails = same (line, fault) fails
Fails-as Memory read all same fails = tt
