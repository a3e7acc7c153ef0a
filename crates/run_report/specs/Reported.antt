-- What a sink holds after a report was to be written to it.
use Rattle.std.specs.Prelude.{◌≡◌, ℕ, ◌≤◌, List, Option, Result, OnOk, OnErr, Err}
use Rattle.std.specs.Io.KnownBytes.{Appends}
use Rattle.mkt_io.specs.Faults.{Rises}
use Rattle.mkt_io.specs.Sink.{AppendsPart}
use Rattle.run_report.specs.declared.ended.ReportFault.{ReportFault}
use Rattle.run_report.specs.declared.ended.ReportFault.TheVariants.{Write, Memory}

-- a report was not written whole only where the sink failed, or for want of memory
abbrev pub HasCause : ReportFault → Type 0 → Type 0
HasCause Write failed = failed
HasCause Memory failed = Unit {0}

-- the whole text is written; or a front part of it, where the sink failed or there was no memory
pub record Reports {O : Type 0} (contents : O → Option (List ℕ)) (faults : O → ℕ) (old : O) (text : List ℕ) (new : O) (result : Result (Unit {0}) ReportFault) : Type 0 where
  pub all : OnOk result (Appends (contents old) (contents new) text)
  pub part : OnErr result (AppendsPart (contents old) (contents new) text)
  pub cause : (fault : ReportFault) → result ≡ Err fault → HasCause fault (Rises (faults old) (faults new))
  pub count : faults old ≤ faults new
