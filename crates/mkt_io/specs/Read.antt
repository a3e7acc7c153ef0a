-- What a call that reads a text file answers.
use Rattle.std.specs.Prelude.{◌≡◌, ℕ, Result, Ok, Err}
use Rattle.mkt_io.specs.declared.fault.LineFault.{LineFault}
use Rattle.mkt_io.specs.declared.fault.TextFault.{TextFault}
use Rattle.mkt_io.specs.declared.fault.TextFault.TheVariants.{At, Memory}

-- unless there was no memory, the fault is this one
abbrev pub Fails : {A : Type 0} → TextFault → Result A (ℕ × LineFault) → Type 0
Fails Memory read = Unit {0}
Fails (At line fault) read = read ≡ Err (line, fault)

-- the answer means what reading gives
abbrev pub Gives : {A B : Type 0} → (A → B) → Result A TextFault → Result B (ℕ × LineFault) → Type 0
Gives meaning (Ok x) read = read ≡ Ok (meaning x)
Gives meaning (Err e) read = Fails e read
