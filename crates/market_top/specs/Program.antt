-- What every call of the program promises.
use Rattle.std.specs.Prelude.{◌≡◌, ◌⊎◌, ◌≤◌, ℕ, List, Option, Some, None}
use Rattle.mkt_io.specs.Faults.{Rises}
use Rattle.memory_node.specs.Given.{Given}
use Rattle.memory_node.specs.declared.node.Label.{Label}
use Rattle.market_top.specs.Auction.{IsAuctionVerdict}
use Rattle.market_top.specs.Check.{IsCheckVerdict}
use Rattle.market_top.specs.Command.{Asked, auction, audit, check, gen, replay, replay_made, run}
use Rattle.market_top.specs.Audit.{IsAuditVerdict}
use Rattle.market_top.specs.Files.{OnFiles}
use Rattle.market_top.specs.Made.{IsMadeVerdict, made}
use Rattle.market_top.specs.Replay.{IsReplayed}
use Rattle.market_top.specs.ScriptRun.{IsPlayed}
use Rattle.market_top.specs.Verdict.{Delivered, OnFile, Verdict, refused_words}
use Rattle.market_top.specs.declared.extent.Extent.TheVariants.{Whole}

-- The verdict on a command, in the order of refusals: the words, then reading (only where the shelf failed), then
-- the file; of a command over two files the second is read where the first is not refused. That there is no memory may come
-- at any time after the words. At most 101,000,000 bytes of an auction file or a script, 268,435,456 of a report and 1,048,576 of a rules file are
-- read, and one more. `replay` and `run` are alike: what is told is the report of a run of the script, whose nodes are in the rack again. The
-- lines of a replay came in file order besides.
abbrev pub IsVerdict : Option Asked → Option (List ℕ → Option (List ℕ)) → Type 0 → (Label → Type 0) → (Label → Option Given) → Verdict → Type 0
IsVerdict None files shelf_failed is_out given v = v ≡ refused_words
IsVerdict (Some (auction file)) files shelf_failed is_out given v = OnFile 101000000 files shelf_failed file IsAuctionVerdict v
IsVerdict (Some (check rules)) files shelf_failed is_out given v = OnFile 1048576 files shelf_failed rules IsCheckVerdict v
IsVerdict (Some (replay rules script)) files shelf_failed is_out given v = OnFiles files shelf_failed rules script (IsReplayed Whole is_out given) v
IsVerdict (Some (replay_made number orders rules)) files shelf_failed is_out given v =
    OnFile 1048576 files shelf_failed rules (IsMadeVerdict is_out given number orders) v
IsVerdict (Some (run rules script)) files shelf_failed is_out given v = OnFiles files shelf_failed rules script (IsPlayed is_out given) v
IsVerdict (Some (audit rules report)) files shelf_failed is_out given v =
    OnFile 1048576 files shelf_failed rules (IsAuditVerdict (OnFile 268435456 files shelf_failed report)) v
IsVerdict (Some (gen number orders)) files shelf_failed is_out given v = v ≡ made number orders

-- What is promised of a call: a verdict on what is asked for is delivered; the causes once more by the status; and no
-- object's count of faults falls. The rack is as it stands after the call: which nodes are out, and what it tells of those given back.
pub record Answered {F O E : Type 0} (files : F → Option (List ℕ → Option (List ℕ))) (shelf_faults : F → ℕ) (out : O → Option (List ℕ)) (out_faults : O → ℕ) (err : E → Option (List ℕ)) (err_faults : E → ℕ)
    (is_out : Label → Type 0) (given : Label → Option Given) (asked : Option Asked) (f : F) (o : O) (e : E) (f' : F) (o' : O) (e' : E) (status : ℕ) : Type 0 where
  pub verdict : (v : Verdict) × IsVerdict asked (files f) (Rises (shelf_faults f) (shelf_faults f')) is_out given v × Delivered out out_faults err err_faults v o e o' e' status
  pub known : status ≤ 7
  pub words : status ≡ 2 → asked ≡ None
  pub reading : status ≡ 3 → Rises (shelf_faults f) (shelf_faults f')
  pub writing : status ≡ 4 → Rises (out_faults o) (out_faults o') ⊎ Rises (err_faults e) (err_faults e')
  pub shelf_count : shelf_faults f ≤ shelf_faults f'
