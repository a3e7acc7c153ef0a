-- How a verdict's parts are delivered, and what follows of its status.
use Rattle.std.proofs.Common.{◌≡◌, ℕ, Bool, true, false, if◌then◌else◌, ◌⊎◌, ◌≤◌, inl, inr, List, [], Option, Some, None, Result, Ok, Err, refl, sym, ap, subst, ◌∙◌, arith}
use Rattle.std.proofs.lemmas.List.{append-nil}
use Rattle.std.specs.Io.KnownBytes.{Appends}
use Rattle.std.specs.List.{list_all}
use Rattle.mkt_io.specs.Faults.{Rises}
use Rattle.mkt_io.specs.Sink.{AppendsPart}
use Rattle.mkt_io.specs.declared.fault.LineFault.{LineFault}
use Rattle.memory_node.specs.Given.{Given}
use Rattle.memory_node.specs.declared.node.Label.{Label}
use Rattle.mkt_base.specs.declared.auction.Outcome.{Outcome}
use Rattle.auction_file.specs.AuctionFile.{Auction, auction_of}
use Rattle.mkt_io.specs.declared.shelf.ReadFault.{ReadFault}
use Rattle.mkt_io.specs.declared.shelf.ReadFault.TheVariants.{Read, Memory}
use Rattle.rules_file.specs.Faults.{Fails, fault_number}
use Rattle.rules_file.specs.Rules.{rules_of}
use Rattle.rules_file.specs.declared.fault.RulesFault.{RulesFault}
use Rattle.rules_file.specs.declared.fault.RulesFault.TheVariants as faults
use Rattle.rules_file.specs.declared.rules.Rules.{Rules}
use Rattle.script_file.specs.Script.{script_of}
use Rattle.script_file.specs.declared.fault.ScriptFault.{ScriptFault}
use Rattle.script_file.specs.declared.fault.ScriptFault.TheVariants.{At, Memory as NoMemory}
use Rattle.script_file.specs.declared.script.Script.{Script}
use Rattle.market_top.specs.Auction.{IsAuctionVerdict, IsFileVerdict, certified}
use Rattle.market_top.specs.Check.{IsCheckVerdict, OnRules, no_rules, refused_rules, tabled}
use Rattle.script_file.specs.Generated.{generated}
use Rattle.market_top.specs.Command.{Asked, auction, audit, check, gen, replay, replay_made, run}
use Rattle.audit.specs.Reports.{IsVerdict as IsTextVerdict}
use Rattle.text_match.specs.declared.matcher.Verdict as text
use Rattle.text_match.specs.declared.matcher.Verdict.TheVariants.{No, Yes}
use Rattle.market_top.specs.Audit.{IsAuditVerdict, IsAuditedUnder, audited}
use Rattle.market_top.specs.Made.{IsMadeUnder, IsMadeVerdict, made}
use Rattle.market_top.specs.declared.extent.Extent.{Extent}
use Rattle.market_top.specs.declared.extent.Extent.TheVariants.{Totals, Whole}
use Rattle.market_top.specs.Program.{Answered, IsVerdict}
use Rattle.run_report.specs.declared.ended.EndedIssue.{EndedIssue}
use Rattle.run_report.specs.Report.{Run}
use Rattle.market_top.specs.Files.{OnFiles, OnScript, OnScriptFile}
use Rattle.market_top.specs.Replay.{IsReplay, IsReplayed}
use Rattle.market_top.specs.Reporting.{IsReportOf, IsReported, has_node, status_of}
use Rattle.market_top.specs.ScriptRun.{IsPlayed, IsScriptRun}
use Rattle.market_top.specs.Verdict.{Delivered, IsRead, OnFile, Told, Verdict, no_memory, refused_words, unread}

-- nothing is written
pub Appends-nothing : (known : Option (List ℕ)) → Appends known known []
Appends-nothing None = tt
Appends-nothing (Some bytes) = sym (append-nil bytes)

pub AppendsPart-nothing : (known : Option (List ℕ)) (text : List ℕ) → AppendsPart known known text
AppendsPart-nothing known text = (0, omega arith, Appends-nothing known)

module _ {O E : Type 0} (out : O → Option (List ℕ)) (out_faults : O → ℕ) (err : E → Option (List ℕ)) (err_faults : E → ℕ) where
  -- what is told on standard error is the verdict, where nothing goes to standard output
  pub Delivered-told : (v : Verdict) (o : O) (e e' : E) (answered : ℕ) → v.out ≡ [] → Told err err_faults v.err v.status e e' answered
      → Delivered out out_faults err err_faults v o e o e' answered
  Delivered-told v o e e' answered none told = record { answer = by told.answer; out_count = omega arith; err_count = told.count }
    where
      nothing : Appends (out o) (out o) v.out
      nothing = subst (λ text. Appends (out o) (out o) text) (sym none) (Appends-nothing (out o))

      by : ((answered ≡ v.status) × Appends (err e) (err e') v.err) ⊎ ((answered ≡ 4) × Rises (err_faults e) (err_faults e') × AppendsPart (err e) (err e') v.err)
          → ((answered ≡ v.status) × Appends (out o) (out o) v.out × Appends (err e) (err e') v.err)
          ⊎ ((answered ≡ 4) × (Rises (out_faults o) (out_faults o) ⊎ Rises (err_faults e) (err_faults e')) × AppendsPart (out o) (out o) v.out × AppendsPart (err e) (err e') v.err)
      by (inl all) = inl (all.0, nothing, all.1)
      by (inr part) = inr (part.0, inr part.1, AppendsPart-nothing (out o) v.out, part.2)

  -- what is written to standard output is the verdict, where nothing goes to standard error
  pub Delivered-printed : (v : Verdict) (o o' : O) (e : E) (answered : ℕ) → v.err ≡ [] → Told out out_faults v.out v.status o o' answered
      → Delivered out out_faults err err_faults v o e o' e answered
  Delivered-printed v o o' e answered none told = record { answer = by told.answer; out_count = told.count; err_count = omega arith }
    where
      nothing : Appends (err e) (err e) v.err
      nothing = subst (λ text. Appends (err e) (err e) text) (sym none) (Appends-nothing (err e))

      by : ((answered ≡ v.status) × Appends (out o) (out o') v.out) ⊎ ((answered ≡ 4) × Rises (out_faults o) (out_faults o') × AppendsPart (out o) (out o') v.out)
          → ((answered ≡ v.status) × Appends (out o) (out o') v.out × Appends (err e) (err e) v.err)
          ⊎ ((answered ≡ 4) × (Rises (out_faults o) (out_faults o') ⊎ Rises (err_faults e) (err_faults e)) × AppendsPart (out o) (out o') v.out × AppendsPart (err e) (err e) v.err)
      by (inl all) = inl (all.0, all.1, nothing)
      by (inr part) = inr (part.0, inl part.1, part.2, AppendsPart-nothing (err e) v.err)

  -- the certificate is written
  pub Delivered-certified : (a : Auction) (outcome : Outcome) (o o' : O) (e : E) → Appends (out o) (out o') (certified a outcome).out → out_faults o ≤ out_faults o'
      → Delivered out out_faults err err_faults (certified a outcome) o e o' e 0
  Delivered-certified a outcome o o' e written count =
      record { answer = inl (refl, written, Appends-nothing (err e)); out_count = count; err_count = omega arith }

  -- a part of it is
  pub Delivered-not_certified : (a : Auction) (outcome : Outcome) (o o' : O) (e : E) → Rises (out_faults o) (out_faults o') → AppendsPart (out o) (out o') (certified a outcome).out
      → out_faults o ≤ out_faults o' → Delivered out out_faults err err_faults (certified a outcome) o e o' e 4
  Delivered-not_certified a outcome o o' e failed part count =
      record { answer = inr (refl, inl failed, part, AppendsPart-nothing (err e) []); out_count = count; err_count = omega arith }

-- what follows from a verdict's status
record IsCaused (asked : Option Asked) (shelf_failed : Type 0) (status : ℕ) : Type 0 where
  known : status ≤ 7
  not_4 : status ≡ 4 → ⊥
  words : status ≡ 2 → asked ≡ None
  reading : status ≡ 3 → shelf_failed

-- a verdict on a file's bytes is done, or it refuses them
AnswersBytes : (List ℕ → Verdict → Type 0) → Type 0
AnswersBytes on = (bytes : List ℕ) (v : Verdict) → on bytes v → v.status ≤ 1

caused-done : (asked : Option Asked) (shelf_failed : Type 0) (v : Verdict) → v.status ≤ 1 → IsCaused asked shelf_failed v.status
caused-done asked shelf_failed v few = record { known = omega arith; not_4 = λ s. absurd (omega arith); words = λ s. absurd (omega arith); reading = λ s. absurd (omega arith) }

-- or there was no memory, or an issue is halted, or a text is no report
caused-late : (asked : Option Asked) (shelf_failed : Type 0) (v : Verdict) → 5 ≤ v.status → v.status ≤ 7 → IsCaused asked shelf_failed v.status
caused-late asked shelf_failed v least most = record { known = omega arith; not_4 = λ s. absurd (omega arith); words = λ s. absurd (omega arith); reading = λ s. absurd (omega arith) }

caused-no_memory : (asked : Option Asked) (shelf_failed : Type 0) (v : Verdict) → v ≡ no_memory → IsCaused asked shelf_failed v.status
caused-no_memory asked shelf_failed v is = let five : v.status ≡ 5 = ap (λ (w : Verdict). w.status) is in caused-late asked shelf_failed v (omega arith) (omega arith)

caused-within : (asked : Option Asked) (limit : ℕ) (files : Option (List ℕ → Option (List ℕ))) (shelf_failed : Type 0) (name : List ℕ) (on : List ℕ → Verdict → Type 0)
    → ((bytes : List ℕ) (v : Verdict) → on bytes v → IsCaused asked shelf_failed v.status)
    → (v : Verdict) → OnFile limit files shelf_failed name on v → IsCaused asked shelf_failed v.status
caused-within asked limit files shelf_failed name on causes v (inl read) =
    let three : v.status ≡ 3 = ap (λ (w : Verdict). w.status) read.0 in
    record { known = omega arith; not_4 = λ s. absurd (omega arith); words = λ s. absurd (omega arith); reading = λ s. read.1 }
caused-within asked limit files shelf_failed name on causes v (inr (inl is)) = caused-no_memory asked shelf_failed v is
caused-within asked limit files shelf_failed name on causes v (inr (inr said)) = causes said.0 v said.2

caused-on : (asked : Option Asked) (limit : ℕ) (files : Option (List ℕ → Option (List ℕ))) (shelf_failed : Type 0) (name : List ℕ) (on : List ℕ → Verdict → Type 0) → AnswersBytes on
    → (v : Verdict) → OnFile limit files shelf_failed name on v → IsCaused asked shelf_failed v.status
unfolding AnswersBytes
caused-on asked limit files shelf_failed name on answers =
    caused-within asked limit files shelf_failed name on (λ bytes v said. caused-done asked shelf_failed v (answers bytes v said))

file-status : (read : Result Auction (ℕ × LineFault)) (v : Verdict) → IsFileVerdict read v → v.status ≤ 1
file-status (Err fault) v is = let one : v.status ≡ 1 = ap (λ (w : Verdict). w.status) is in omega arith
file-status (Ok a) v is = let zero : v.status ≡ 0 = ap (λ (w : Verdict). w.status) is.2 in omega arith

rules-status : (read : Result Rules RulesFault) (v : Verdict) → OnRules read (λ rules w. w ≡ tabled rules) v → v.status ≤ 1
rules-status (Err fault) v is = let one : v.status ≡ 1 = ap (λ (w : Verdict). w.status) is in omega arith
rules-status (Ok rules) v is = let zero : v.status ≡ 0 = ap (λ (w : Verdict). w.status) is in omega arith

-- a report's status is 0, or 6
status-known : (issues : List EndedIssue) → (status_of issues ≡ 0) ⊎ (status_of issues ≡ 6)
unfolding status_of
status-known issues = by (list_all has_node issues)
  where
    status : Bool → ℕ
    status all = if all then 0 else 6

    by : (all : Bool) → (status all ≡ 0) ⊎ (status all ≡ 6)
    by true = inl refl
    by false = inr refl

-- a report that is audited
audited-caused : (asked : Option Asked) (shelf_failed : Type 0) (rules : Rules) (bytes : List ℕ) (v : Verdict) → IsAuditedUnder rules bytes v → IsCaused asked shelf_failed v.status
audited-caused asked shelf_failed rules bytes v (inl long) = let one : v.status ≡ 1 = ap (λ (w : Verdict). w.status) long.1 in caused-done asked shelf_failed v (omega arith)
audited-caused asked shelf_failed rules bytes v (inr rest) = by rest.1
  where
    told : (answer : text.Verdict) → v ≡ audited answer → IsCaused asked shelf_failed v.status
    told Yes is = let zero : v.status ≡ 0 = ap (λ (w : Verdict). w.status) is in caused-done asked shelf_failed v (omega arith)
    told (No line) is = let seven : v.status ≡ 7 = ap (λ (w : Verdict). w.status) is in caused-late asked shelf_failed v (omega arith) (omega arith)

    by : (v ≡ no_memory) ⊎ ((answer : text.Verdict) × IsTextVerdict rules bytes answer × (v ≡ audited answer)) → IsCaused asked shelf_failed v.status
    by (inl is) = caused-no_memory asked shelf_failed v is
    by (inr said) = told said.0 said.2

audit-caused : (asked : Option Asked) (files : Option (List ℕ → Option (List ℕ))) (shelf_failed : Type 0) (report : List ℕ) (read : Result Rules RulesFault) (v : Verdict)
    → OnRules read (λ rules. OnFile 268435456 files shelf_failed report (IsAuditedUnder rules)) v → IsCaused asked shelf_failed v.status
audit-caused asked files shelf_failed report (Err fault) v is = let one : v.status ≡ 1 = ap (λ (w : Verdict). w.status) is in caused-done asked shelf_failed v (omega arith)
audit-caused asked files shelf_failed report (Ok rules) v is =
    caused-within asked 268435456 files shelf_failed report (IsAuditedUnder rules) (λ bytes w said. audited-caused asked shelf_failed rules bytes w said) v is

-- what is told of a run
report-caused : (asked : Option Asked) (shelf_failed : Type 0) (extent : Extent) (rules : Rules) (made : Run → Type 0) (v : Verdict) → IsReportOf extent rules made v → IsCaused asked shelf_failed v.status
report-caused asked shelf_failed extent rules made v (inl is) = caused-no_memory asked shelf_failed v is
report-caused asked shelf_failed extent rules made v (inr is) = by is.2
  where
    whole-run : v.status ≡ status_of is.0.issues → (status_of is.0.issues ≡ 0) ⊎ (status_of is.0.issues ≡ 6) → IsCaused asked shelf_failed v.status
    whole-run same (inl zero) = caused-done asked shelf_failed v (omega (arith, same, zero))
    whole-run same (inr six) = caused-late asked shelf_failed v (omega (arith, same, six)) (omega (arith, same, six))

    by : IsReported extent rules is.0 v → IsCaused asked shelf_failed v.status
    by (inl whole) = whole-run (ap (λ (w : Verdict). w.status) whole) (status-known is.0.issues)
    by (inr part) = let five : v.status ≡ 5 = ap (λ (w : Verdict). w.status) part.1 in caused-late asked shelf_failed v (omega arith) (omega arith)

-- a script that is refused, or on which there is a verdict
script-caused : (asked : Option Asked) (shelf_failed : Type 0) (on : Script → Verdict → Type 0) → ((script : Script) (w : Verdict) → on script w → IsCaused asked shelf_failed w.status)
    → (read : Result Script ScriptFault) (v : Verdict) → OnScript read on v → IsCaused asked shelf_failed v.status
script-caused asked shelf_failed on causes (Err (At number fault)) v is = let one : v.status ≡ 1 = ap (λ (w : Verdict). w.status) is in caused-done asked shelf_failed v (omega arith)
script-caused asked shelf_failed on causes (Err NoMemory) v is = caused-no_memory asked shelf_failed v is
script-caused asked shelf_failed on causes (Ok script) v is = causes script v is

-- a rules file and a script
module _ (asked : Option Asked) (files : Option (List ℕ → Option (List ℕ))) (shelf_failed : Type 0) (script : List ℕ) (on : Rules → Script → Verdict → Type 0)
    (causes : (rules : Rules) (said : Script) (w : Verdict) → on rules said w → IsCaused asked shelf_failed w.status) where
  under-caused : (read : Result Rules RulesFault) (v : Verdict) → OnRules read (OnScriptFile files shelf_failed script on) v → IsCaused asked shelf_failed v.status
  under-caused (Err fault) v is = let one : v.status ≡ 1 = ap (λ (w : Verdict). w.status) is in caused-done asked shelf_failed v (omega arith)
  under-caused (Ok rules) v is =
      caused-within asked 101000000 files shelf_failed script (λ bytes. OnScript (script_of rules bytes) (on rules)) (λ bytes w said. script-caused asked shelf_failed (on rules) (causes rules) (script_of rules bytes) w said) v is

  files-caused : (rules : List ℕ) (v : Verdict) → OnFiles files shelf_failed rules script on v → IsCaused asked shelf_failed v.status
  files-caused rules v is =
      caused-within asked 1048576 files shelf_failed rules (λ bytes. OnRules (rules_of bytes) (OnScriptFile files shelf_failed script on)) (λ bytes w said. under-caused (rules_of bytes) w said) v is

-- a script that is made
made-caused : (asked : Option Asked) (shelf_failed : Type 0) (is_out : Label → Type 0) (given : Label → Option Given) (number orders : ℕ) (read : Result Rules RulesFault) (v : Verdict)
    → OnRules read (IsMadeUnder is_out given number orders) v → IsCaused asked shelf_failed v.status
made-caused asked shelf_failed is_out given number orders (Err fault) v is = let one : v.status ≡ 1 = ap (λ (w : Verdict). w.status) is in caused-done asked shelf_failed v (omega arith)
made-caused asked shelf_failed is_out given number orders (Ok rules) v (inl is) = caused-no_memory asked shelf_failed v is
made-caused asked shelf_failed is_out given number orders (Ok rules) v (inr is) =
    script-caused asked shelf_failed (IsReplayed Totals is_out given rules) (λ script w told. report-caused asked shelf_failed Totals rules (IsReplay is_out given rules script) w told)
    (script_of rules (generated number orders)) v is

caused : (asked : Option Asked) (files : Option (List ℕ → Option (List ℕ))) (shelf_failed : Type 0) (is_out : Label → Type 0) (given : Label → Option Given) (v : Verdict)
    → IsVerdict asked files shelf_failed is_out given v → IsCaused asked shelf_failed v.status
unfolding AnswersBytes
caused None files shelf_failed is_out given v is =
    let two : v.status ≡ 2 = ap (λ (w : Verdict). w.status) is in
    record { known = omega arith; not_4 = λ s. absurd (omega arith); words = λ s. refl; reading = λ s. absurd (omega arith) }
caused (Some (auction file)) files shelf_failed is_out given v is =
    caused-on _ 101000000 files shelf_failed file IsAuctionVerdict (λ bytes. file-status (auction_of bytes)) v is
caused (Some (check rules)) files shelf_failed is_out given v is =
    caused-on _ 1048576 files shelf_failed rules IsCheckVerdict (λ bytes. rules-status (rules_of bytes)) v is
caused (Some (replay rules script)) files shelf_failed is_out given v is =
    files-caused _ files shelf_failed script (IsReplayed Whole is_out given) (λ said more w told. report-caused _ shelf_failed Whole said (IsReplay is_out given said more) w told) rules v is
caused (Some (run rules script)) files shelf_failed is_out given v is =
    files-caused _ files shelf_failed script (IsPlayed is_out given) (λ said more w told. report-caused _ shelf_failed Whole said (IsScriptRun is_out given said more) w told) rules v is
caused (Some (replay_made number orders rules)) files shelf_failed is_out given v is =
    caused-within _ 1048576 files shelf_failed rules (IsMadeVerdict is_out given number orders)
    (λ bytes w said. made-caused _ shelf_failed is_out given number orders (rules_of bytes) w said) v is
caused (Some (audit rules report)) files shelf_failed is_out given v is =
    caused-within _ 1048576 files shelf_failed rules (IsAuditVerdict (OnFile 268435456 files shelf_failed report))
    (λ bytes w said. audit-caused _ files shelf_failed report (rules_of bytes) w said) v is
caused (Some (gen number orders)) files shelf_failed is_out given v is =
    let zero : v.status ≡ 0 = ap (λ (w : Verdict). w.status) is in caused-done _ shelf_failed v (omega arith)

-- rules that are read have their tables as the verdict
pub good-rules : (bytes : List ℕ) (rules : Rules) → rules_of bytes ≡ Ok rules → IsCheckVerdict bytes (tabled rules)
good-rules bytes rules said =
    let P : Result Rules RulesFault → Type 0 = λ read. OnRules read (λ rules w. w ≡ tabled rules) (tabled rules) in
    subst P (sym said) refl

refused-rules : (bytes : List ℕ) (fault : RulesFault) → rules_of bytes ≡ Err fault → IsCheckVerdict bytes (refused_rules fault)
refused-rules bytes fault said =
    let P : Result Rules RulesFault → Type 0 = λ read. OnRules read (λ rules w. w ≡ tabled rules) (refused_rules fault) in
    subst P (sym said) refl

-- and others their first fault, or there is no memory
pub no-rules-is : (limit : ℕ) (files : Option (List ℕ → Option (List ℕ))) (shelf_failed : Type 0) (name : List ℕ) (fault : RulesFault) (bytes : List ℕ)
    → IsRead limit files name bytes → Fails fault (rules_of bytes) → OnFile limit files shelf_failed name IsCheckVerdict (no_rules fault)
no-rules-is limit files shelf_failed name faults.Memory bytes read fails = inr (inl refl)
no-rules-is limit files shelf_failed name fault bytes read fails = inr (inr (bytes, read, refused-rules bytes fault fails))

-- nothing goes to standard output where there are no rules
pub no-rules-out : (fault : RulesFault) → (no_rules fault).out ≡ []
no-rules-out faults.Memory = refl
no-rules-out fault = refl

-- the status of a fault, by its number
pub refused-status : (fault : RulesFault) (n : ℕ) → Some n ≡ fault_number fault → 1 ≡ (no_rules fault).status
refused-status faults.Memory n e = absurd (cc)
refused-status fault n e = refl

pub memory-status : (fault : RulesFault) → None ≡ fault_number fault → 5 ≡ (no_rules fault).status
memory-status faults.Memory e = refl
memory-status fault e = absurd (cc)

-- nothing goes to standard output where a file is not read
pub unread-out : (fault : ReadFault) → (unread fault).out ≡ []
unread-out Read = refl
unread-out Memory = refl

-- a file is not read, or there is no memory for it
pub unread-is : (limit : ℕ) (files : Option (List ℕ → Option (List ℕ))) (shelf_failed : Type 0) (name : List ℕ) (on : List ℕ → Verdict → Type 0) (fault : ReadFault)
    → (fault ≡ Read → shelf_failed) → OnFile limit files shelf_failed name on (unread fault)
unread-is limit files shelf_failed name on Read failed = inl (refl, failed refl)
unread-is limit files shelf_failed name on Memory failed = inr (inl refl)

-- words that are no command are refused
pub refused-is : (asked : Option Asked) (files : Option (List ℕ → Option (List ℕ))) (shelf_failed : Type 0) (is_out : Label → Type 0) (given : Label → Option Given)
    → asked ≡ None → IsVerdict asked files shelf_failed is_out given refused_words
refused-is asked files shelf_failed is_out given is = subst (λ (a : Option Asked). IsVerdict a files shelf_failed is_out given refused_words) (sym is) refl

module _ {F O E : Type 0} (files : F → Option (List ℕ → Option (List ℕ))) (shelf_faults : F → ℕ) (out : O → Option (List ℕ)) (out_faults : O → ℕ) (err : E → Option (List ℕ)) (err_faults : E → ℕ)
    (is_out : Label → Type 0) (given : Label → Option Given) (asked : Option Asked) (f : F) (o : O) (e : E) (f' : F) (o' : O) (e' : E) where
  -- a verdict that is delivered is all that is promised
  pub Answered-by : (v : Verdict) (status : ℕ) → IsVerdict asked (files f) (Rises (shelf_faults f) (shelf_faults f')) is_out given v
      → Delivered out out_faults err err_faults v o e o' e' status → shelf_faults f ≤ shelf_faults f'
      → Answered files shelf_faults out out_faults err err_faults is_out given asked f o e f' o' e' status
  Answered-by v status is delivered count = by delivered.answer
    where
      cause : IsCaused asked (Rises (shelf_faults f) (shelf_faults f')) v.status
      cause = caused asked (files f) (Rises (shelf_faults f) (shelf_faults f')) is_out given v is

      by : ((status ≡ v.status) × Appends (out o) (out o') v.out × Appends (err e) (err e') v.err)
          ⊎ ((status ≡ 4) × (Rises (out_faults o) (out_faults o') ⊎ Rises (err_faults e) (err_faults e')) × AppendsPart (out o) (out o') v.out × AppendsPart (err e) (err e') v.err)
          → Answered files shelf_faults out out_faults err err_faults is_out given asked f o e f' o' e' status
      by (inl all) = record {
        verdict = (v, is, delivered);
        known = omega (arith, cause.known, all.0);
        words = λ s. cause.words (sym all.0 ∙ s);
        reading = λ s. cause.reading (sym all.0 ∙ s);
        writing = λ s. absurd (cause.not_4 (sym all.0 ∙ s));
        shelf_count = count;
      }
      by (inr part) = record {
        verdict = (v, is, delivered);
        known = omega (arith, part.0);
        words = λ s. absurd (omega (arith, part.0));
        reading = λ s. absurd (omega (arith, part.0));
        writing = λ s. part.1;
        shelf_count = count;
      }

-- the script that is made of a number is the verdict on its command
pub gen-is : (asked : Option Asked) (files : Option (List ℕ → Option (List ℕ))) (shelf_failed : Type 0) (is_out : Label → Type 0) (given : Label → Option Given) (number orders : ℕ)
    → asked ≡ Some (gen number orders) → IsVerdict asked files shelf_failed is_out given (made number orders)
gen-is asked files shelf_failed is_out given number orders is = subst (λ (a : Option Asked). IsVerdict a files shelf_failed is_out given (made number orders)) (sym is) refl
