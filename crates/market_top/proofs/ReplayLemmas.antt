-- How the report of a script that is replayed is delivered.
use Rattle.std.proofs.Common.{◌≡◌, ℕ, ◌⊎◌, ◌≤◌, inl, inr, List, [], length, take, Option, Result, Ok, Err, OnOk, OnErr, refl, sym, subst, arith}
use Rattle.std.proofs.lemmas.List.{take_all}
use Rattle.std.specs.Io.KnownBytes.{Appends}
use Rattle.mkt_io.specs.Faults.{Rises}
use Rattle.mkt_io.specs.Sink.{AppendsPart}
use Rattle.rules_file.specs.Faults.{Fails}
use Rattle.rules_file.specs.Rules.{rules_of}
use Rattle.rules_file.specs.declared.fault.RulesFault.{RulesFault}
use Rattle.rules_file.specs.declared.fault.RulesFault.TheVariants as rules_faults
use Rattle.rules_file.specs.declared.rules.Rules.{Rules}
use Rattle.script_file.specs.Faults.{Fails as FailsScript}
use Rattle.script_file.specs.Script.{script_of}
use Rattle.script_file.specs.declared.fault.ScriptFault.{ScriptFault}
use Rattle.script_file.specs.declared.fault.ScriptFault.TheVariants.{At, Memory}
use Rattle.script_file.specs.declared.script.Script.{Script}
use Rattle.mkt_base.specs.declared.script.ShowLine.{ShowLine}
use Rattle.memory_node.specs.Given.{Given}
use Rattle.memory_node.specs.declared.node.Label.{Label}
use Rattle.run_report.specs.Report.{Run}
use Rattle.script_run.specs.Running.{run_of}
use Rattle.run_report.specs.declared.ended.EndedIssue.{EndedIssue}
use Rattle.market_top.specs.Check.{OnRules, no_rules, refused_rules}
use Rattle.script_file.specs.Generated.{generated}
use Rattle.market_top.specs.Made.{IsMadeUnder}
use Rattle.market_top.specs.Files.{AreRulesOf, IsScriptOf, IsTold, OnFiles, OnScript, OnScriptFile, Unscripted, no_script}
use Rattle.market_top.specs.Replay.{IsReplayed}
use Rattle.market_top.specs.Reporting.{IsReported, cut_report, reported, status_of, text_of}
use Rattle.market_top.specs.declared.extent.Extent.{Extent}
use Rattle.market_top.specs.declared.extent.Extent.TheVariants.{Totals}
use Rattle.market_top.specs.Verdict.{Delivered, IsRead, OnFile, Told, Verdict, no_memory}
use Rattle.market_top.proofs.VerdictLemmas.{Appends-nothing, AppendsPart-nothing}

module _ {O E : Type 0} (out : O → Option (List ℕ)) (out_faults : O → ℕ) (err : E → Option (List ℕ)) (err_faults : E → ℕ) (extent : Extent) (rules : Rules) (run : Run) (o o' : O) (count : out_faults o ≤ out_faults o') where
  -- the report is written
  pub Delivered-reported : (e : E) (status : ℕ) → status ≡ status_of run.issues → Appends (out o) (out o') (text_of extent rules run) → Delivered out out_faults err err_faults (reported extent rules run) o e o' e status
  Delivered-reported e status is written = record { answer = inl (is, written, Appends-nothing (err e)); out_count = count; err_count = omega arith }

  -- the sink failed
  pub Delivered-not_reported : (e : E) → Rises (out_faults o) (out_faults o') → AppendsPart (out o) (out o') (text_of extent rules run) → Delivered out out_faults err err_faults (reported extent rules run) o e o' e 4
  Delivered-not_reported e failed part = record { answer = inr (refl, inl failed, part, AppendsPart-nothing (err e) []); out_count = count; err_count = omega arith }

  -- there was no memory once a front part was written
  pub Delivered-cut : (e e' : E) (answered written : ℕ) → Appends (out o) (out o') (take written (text_of extent rules run)) → Told err err_faults no_memory.err 5 e e' answered
      → Delivered out out_faults err err_faults (cut_report extent rules run written) o e o' e' answered
  Delivered-cut e e' answered written part told = record { answer = by told.answer; out_count = count; err_count = told.count }
    where
      front : List ℕ
      front = take written (text_of extent rules run)

      whole : AppendsPart (out o) (out o') (take written (text_of extent rules run))
      whole =
          let all : take (length (take written (text_of extent rules run))) (take written (text_of extent rules run)) ≡ take written (text_of extent rules run) = take_all _ (take written (text_of extent rules run)) (omega arith) in
          (length (take written (text_of extent rules run)), omega arith, subst (λ (text : List ℕ). Appends (out o) (out o') text) (sym all) part)

      by : ((answered ≡ 5) × Appends (err e) (err e') no_memory.err) ⊎ ((answered ≡ 4) × Rises (err_faults e) (err_faults e') × AppendsPart (err e) (err e') no_memory.err)
          → ((answered ≡ 5) × Appends (out o) (out o') (take written (text_of extent rules run)) × Appends (err e) (err e') no_memory.err)
          ⊎ ((answered ≡ 4) × (Rises (out_faults o) (out_faults o') ⊎ Rises (err_faults e) (err_faults e')) × AppendsPart (out o) (out o') (take written (text_of extent rules run)) × AppendsPart (err e) (err e') no_memory.err)
      by (inl all) = inl (all.0, part, all.1)
      by (inr some) = inr (some.0, inr some.1, whole, some.2)

-- nothing goes to standard output where there is no script
pub no-script-out : (fault : ScriptFault) → (no_script fault).out ≡ []
no-script-out (At number fault) = refl
no-script-out Memory = refl

-- a script that is refused is told its first fault, or there is no memory
pub no-script-is : (files : Option (List ℕ → Option (List ℕ))) (shelf_failed : Type 0) (name : List ℕ) (on : Rules → Script → Verdict → Type 0) (rules : Rules) (fault : ScriptFault) (bytes : List ℕ)
    → IsRead 101000000 files name bytes → FailsScript fault (script_of rules bytes) → OnScriptFile files shelf_failed name on rules (no_script fault)
no-script-is files shelf_failed name on rules (At number fault) bytes read fails =
    let P : Result Script ScriptFault → Type 0 = λ said. OnScript said (on rules) (no_script (At number fault)) in
    inr (inr (bytes, read, subst P (sym fails) refl))
no-script-is files shelf_failed name on rules Memory bytes read fails = inr (inl refl)

module _ (files : Option (List ℕ → Option (List ℕ))) (shelf_failed : Type 0) (name : List ℕ) (on : Rules → Verdict → Type 0) (bytes : List ℕ) (read : IsRead 1048576 files name bytes) where
  -- the rules are refused, or there is no memory for them
  pub no-rules-on : (fault : RulesFault) → Fails fault (rules_of bytes) → OnFile 1048576 files shelf_failed name (λ said. OnRules (rules_of said) on) (no_rules fault)
  no-rules-on rules_faults.Memory fails = inr (inl refl)
  no-rules-on fault fails = inr (inr (bytes, read, refused fault fails))
    where
      refused : (f : RulesFault) → rules_of bytes ≡ Err f → OnRules (rules_of bytes) on (refused_rules f)
      refused f said =
          let P : Result Rules RulesFault → Type 0 = λ read. OnRules read on (refused_rules f) in
          subst P (sym said) refl

  -- the rules are read, and there is a verdict under them
  pub rules-on : (rules : Rules) (v : Verdict) → rules_of bytes ≡ Ok rules → on rules v → OnFile 1048576 files shelf_failed name (λ said. OnRules (rules_of said) on) v
  rules-on rules v said is =
      let P : Result Rules RulesFault → Type 0 = λ read. OnRules read on v in
      inr (inr (bytes, read, subst P (sym said) is))

-- what holds of a file that is read later holds from the call's begin on
pub OnFile-since : (limit : ℕ) (files now : Option (List ℕ → Option (List ℕ))) (later failed : Type 0) (name : List ℕ) (on : List ℕ → Verdict → Type 0) (v : Verdict) → now ≡ files → (later → failed)
    → OnFile limit now later name on v → OnFile limit files failed name on v
OnFile-since limit files now later failed name on v same since is = by (subst (λ (known : Option (List ℕ → Option (List ℕ))). OnFile limit known later name on v) same is)
  where
    by : OnFile limit files later name on v → OnFile limit files failed name on v
    by (inl read) = inl (read.0, since read.1)
    by (inr (inl memory)) = inr (inl memory)
    by (inr (inr said)) = inr (inr said)

pub Rises-since : (from old new : ℕ) → from ≤ old → Rises old new → Rises from new
Rises-since from old new before (inl more) = inl (omega arith)
Rises-since from old new before (inr last) = inr last

-- ---- a verdict over both files

module _ (files : Option (List ℕ → Option (List ℕ))) (shelf_failed : Type 0) (rules script : List ℕ) (on : Rules → Script → Verdict → Type 0) where
  -- both were read, and there is a verdict on them
  pub files-on : (said : Rules) (more : Script) (v : Verdict) → AreRulesOf files rules said → IsScriptOf files script said more → on said more v → OnFiles files shelf_failed rules script on v
  files-on said more v first second is =
      let P : Result Script ScriptFault → Type 0 = λ read. OnScript read (on said) v in
      let Q : Result Rules RulesFault → Type 0 = λ read. OnRules read (OnScriptFile files shelf_failed script on) v in
      inr (inr (first.bytes, first.read, subst Q (sym first.said) (inr (inr (second.bytes, second.read, subst P (sym second.said) is)))))

  -- a verdict that says nothing of a script is one on each command over it
  under-script : (read : Result Script ScriptFault) (said : Rules) (v : Verdict) → OnScript read (Unscripted said) v → OnScript read (on said) v
  under-script (Err fault) said v is = is
  under-script (Ok more) said v is = absurd is

  under-script-file : (said : Rules) (v : Verdict) → OnScriptFile files shelf_failed script Unscripted said v → OnScriptFile files shelf_failed script on said v
  under-script-file said v (inl read) = inl read
  under-script-file said v (inr (inl memory)) = inr (inl memory)
  under-script-file said v (inr (inr told)) = inr (inr (told.0, told.1, under-script (script_of said told.0) said v told.2))

  under-rules : (read : Result Rules RulesFault) (v : Verdict) → OnRules read (OnScriptFile files shelf_failed script Unscripted) v → OnRules read (OnScriptFile files shelf_failed script on) v
  under-rules (Err fault) v is = is
  under-rules (Ok said) v is = under-script-file said v is

  pub files-refused : (v : Verdict) → OnFiles files shelf_failed rules script Unscripted v → OnFiles files shelf_failed rules script on v
  files-refused v (inl read) = inl read
  files-refused v (inr (inl memory)) = inr (inl memory)
  files-refused v (inr (inr told)) = inr (inr (told.0, told.1, under-rules (rules_of told.0) v told.2))

-- what was delivered from a state on that a call left as it was
pub delivered-since : {O E : Type 0} (out : O → Option (List ℕ)) (out_faults : O → ℕ) (err : E → Option (List ℕ)) (err_faults : E → ℕ) (v : Verdict) (o : O) (e same : E) (o' : O) (e' : E) (status : ℕ) → same ≡ e
    → Delivered out out_faults err err_faults v o same o' e' status → Delivered out out_faults err err_faults v o e o' e' status
delivered-since {O} {E} out out_faults err err_faults v o e same o' e' status is told = subst (λ (x : E). Delivered out out_faults err err_faults v o x o' e' status) is told

-- a script that is refused under rules that were read is one that the call refuses
pub script-refused : {E : Type 0} (err : E → Option (List ℕ)) (err_faults : E → ℕ) (files now : Option (List ℕ → Option (List ℕ))) (old before new : ℕ) (rules script : List ℕ) (said : Rules) (e same e' : E) (status : ℕ)
    → now ≡ files → old ≤ before → AreRulesOf files rules said → same ≡ e → IsTold err err_faults (OnScriptFile now (Rises before new) script Unscripted said) same e' status
    → IsTold err err_faults (OnFiles files (Rises old new) rules script Unscripted) e e' status
script-refused {E} err err_faults files now old before new rules script said e same e' status same_files earlier are same_err refused =
    record { verdict = refused.verdict; is = inr (inr (are.bytes, are.read, subst Q (sym are.said) late)); nothing = refused.nothing; told = subst T same_err refused.told }
  where
    Q : Result Rules RulesFault → Type 0
    Q read = OnRules read (OnScriptFile files (Rises old new) script Unscripted) refused.verdict

    T : E → Type 0
    T x = Told err err_faults refused.verdict.err refused.verdict.status x e' status

    late : OnScriptFile files (Rises old new) script Unscripted said refused.verdict
    late =
        OnFile-since 101000000 files now (Rises before new) (Rises old new) script (λ (bytes : List ℕ). OnScript (script_of said bytes) (Unscripted said)) refused.verdict same_files (Rises-since old before new earlier) refused.is

-- what is read of a script that is made
module _ (is_out : Label → Type 0) (given : Label → Option Given) (number orders : ℕ) (rules : Rules) where
  pub no-script-made : (fault : ScriptFault) → FailsScript fault (script_of rules (generated number orders)) → IsMadeUnder is_out given number orders rules (no_script fault)
  no-script-made (At line fault) fails =
      let P : Result Script ScriptFault → Type 0 = λ said. OnScript said (IsReplayed Totals is_out given rules) (no_script (At line fault)) in
      inr (subst P (sym fails) refl)
  no-script-made Memory fails = inl refl

  pub script-made : (script : Script) (v : Verdict) → script_of rules (generated number orders) ≡ Ok script → IsReplayed Totals is_out given rules script v → IsMadeUnder is_out given number orders rules v
  script-made script v said is =
      let P : Result Script ScriptFault → Type 0 = λ said. OnScript said (IsReplayed Totals is_out given rules) v in
      inr (subst P (sym said) is)

-- what is reported of lists that were lent is reported of the lists themselves
pub IsReported-lent : (extent : Extent) (rules : Rules) (lent_issues issues : List EndedIssue) (lent_shows shows : List ShowLine) (v : Verdict) → lent_issues ≡ issues → lent_shows ≡ shows
    → IsReported extent rules (run_of lent_issues lent_shows) v → IsReported extent rules (run_of issues shows) v
IsReported-lent extent rules lent_issues issues lent_shows shows v same_issues same_shows told =
    let by_issues = subst (λ (es : List EndedIssue). IsReported extent rules (run_of es lent_shows) v) same_issues told in
    subst (λ (ss : List ShowLine). IsReported extent rules (run_of issues ss) v) same_shows by_issues

-- what holds at a good end, and at a bad one
pub at-Ok : {T E : Type 0} (result : Result T E) (x : T) (P : Type 0) → result ≡ Ok x → OnOk result P → P
at-Ok {T} {E} result x P is holds = subst (λ (r : Result T E). OnOk r P) is holds

pub at-Err : {T E : Type 0} (result : Result T E) (fault : E) (P : Type 0) → result ≡ Err fault → OnErr result P → P
at-Err {T} {E} result fault P is holds = subst (λ (r : Result T E). OnErr r P) is holds
