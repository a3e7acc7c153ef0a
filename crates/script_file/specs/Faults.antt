-- What a call that reads a script, or a line of one, answers.
use Rattle.std.specs.Prelude.{◌≡◌, ℕ, Result, Ok, Err}
use Rattle.mkt_io.specs.LineFault.{fault_number}
use Rattle.mkt_io.specs.declared.fault.LineFault.{LineFault}
use Rattle.script_file.specs.declared.fault.ScriptFault.{ScriptFault}
use Rattle.script_file.specs.declared.fault.ScriptFault.TheVariants.{At, Memory}

-- the fault of a line, with the line's number and its own
abbrev pub at_line : {A : Type 0} → ℕ → Result A LineFault → Result A ScriptFault
at_line number (Ok x) = Ok x
at_line number (Err fault) = Err (At number (fault_number fault))

-- unless there was no memory, the fault is the one that reading gives
abbrev pub Fails : {A : Type 0} → ScriptFault → Result A ScriptFault → Type 0
Fails Memory read = Unit {0}
Fails (At line number) read = read ≡ Err (At line number)

-- the answer is what reading gives, or there was no memory
abbrev pub Gives : {A : Type 0} → Result A ScriptFault → Result A ScriptFault → Type 0
Gives (Ok x) read = read ≡ Ok x
Gives (Err fault) read = Fails fault read
