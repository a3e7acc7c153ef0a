-- The entries of a journal against the events that the lines ask for.
use Rattle.std.proofs.Common.{◌≡◌, ℕ, zero, suc, ◌+◌, ◌==◌, ◌≤◌, Bool, true, false, cond, ◌&&◌, List, [], ◌∷◌, ◌++◌, length, take, refl, ap, ◌∙◌, arith}
use Rattle.std.specs.List.{AllByRecursion}
use Rattle.std.proofs.lemmas.Bool.{eqb-false, eqb-true}
use Rattle.std.proofs.lemmas.List.Elements.{recursion_from_All}
use Rattle.std.proofs.lemmas.List.Sums.{sum_by-cons}
use Rattle.mkt_base.specs.declared.event.Entry.{Entry}
use Rattle.mkt_base.specs.declared.event.Event.{Event}
use Rattle.mkt_base.specs.declared.event.Event.TheVariants as events
use Rattle.node_rules.specs.Nodes.{IsCrashOf}
use Rattle.script_file.specs.Own.{is_event}
use Rattle.script_file.specs.declared.script.GatewayScriptLine.{GatewayScriptLine}
use Rattle.issue_machine.specs.History.{FollowOn, IsHistory, entries_by}
use Rattle.issue_journal.specs.Laws.{LossesStayFew, is_rejoin, rejoins}
use Rattle.turn_writer.specs.Writing.{asks}
use Rattle.run_law.specs.Run.{count_of, lines_of}
use Rattle.script_run.specs.Running.{count_for, is_for}
use Rattle.run_room.specs.Laws.{NoJournalIsFull}
use Rattle.run_room.proofs.Totals.{one, total, total-add, total-le, total-less, total-most, total-one, total-same, total-zero}

-- ---- front parts

-- a front part of a history is a history
pub follow-front : (participants n : ℕ) (before es : List Entry) → FollowOn participants before es → FollowOn participants before (take n es)
follow-front participants zero before es on = tt
follow-front participants (suc n) before [] on = tt
follow-front participants (suc n) before (e ∷ es) on = (on.0, follow-front participants n (before ++ e ∷ []) es on.1)

-- how many entries are the gateways'
abbrev pub by_gateways : List Entry → ℕ
by_gateways [] = 0
by_gateways (e ∷ es) = cond {A = ℕ} (e.caller.0 == 0) 0 1 + by_gateways es

by_gateways-front : (n : ℕ) (es : List Entry) → by_gateways (take n es) ≤ by_gateways es
by_gateways-front zero es = omega arith
by_gateways-front (suc n) [] = omega arith
by_gateways-front (suc n) (e ∷ es) = let rest : by_gateways (take n es) ≤ by_gateways es = by_gateways-front n es in omega (arith, rest)

-- all others are the system's
entries-split : (es : List Entry) → length es ≡ by_gateways es + length (entries_by 0 es)
entries-split [] = omega arith
entries-split (e ∷ es) = by (e.caller.0 == 0) (entries-split es)
  where
    by : (b : Bool) → length es ≡ by_gateways es + length (entries_by 0 es)
        → suc (length es) ≡ cond {A = ℕ} b 0 1 + by_gateways es + length (cond b (e ∷ entries_by 0 es) (entries_by 0 es))
    by true rest = omega (arith, rest)
    by false rest = omega (arith, rest)

-- the system enters no rejoin
rejoins-few : (participants : ℕ) (before es : List Entry) → FollowOn participants before es → rejoins es ≤ by_gateways es
rejoins-few participants before [] on = omega arith
rejoins-few participants before (e ∷ es) on = by (e.caller.0 == 0) refl (rejoins-few participants (before ++ e ∷ []) es on.1)
  where
    sums : rejoins (e ∷ es) ≡ cond {A = ℕ} (is_rejoin e.event) 1 0 + rejoins es
    sums = sum_by-cons (λ (x : Entry). cond {A = ℕ} (is_rejoin x.event) 1 0) e es

    most : (b : Bool) → cond {A = ℕ} b 1 0 ≤ 1
    most true = omega arith
    most false = omega arith

    none : (event : Event) (k : ℕ) → IsCrashOf event k → is_rejoin event ≡ false
    none (events.Order participant side kind qty) k is = absurd is
    none (events.Change participant target kind qty) k is = absurd is
    none (events.Cancel participant target) k is = absurd is
    none (events.Clock at) k is = absurd is
    none (events.Crash node) k is = refl
    none (events.Rejoin node) k is = absurd is

    by : (b : Bool) → (e.caller.0 == 0) ≡ b → rejoins es ≤ by_gateways es → rejoins (e ∷ es) ≤ cond {A = ℕ} b 0 1 + by_gateways es
    by true is rest =
        let loss = on.0.loss (eqb-true e.caller.0 0 is) in
        let still : cond {A = ℕ} (is_rejoin e.event) 1 0 ≡ 0 = ap (λ (b : Bool). cond {A = ℕ} b 1 0) (none e.event loss.node loss.crash) in
        omega (arith, sums, rest, still)
    by false is rest = omega (arith, sums, rest, most (is_rejoin e.event))

-- ---- gateway by gateway

-- each of the gateways' entries is one of a gateway
by_gateways-each : (gateways : ℕ) (es : List Entry) → AllByRecursion (λ (e : Entry). e.caller.0 ≤ gateways) es → by_gateways es ≤ total (λ (g : ℕ). count_of g es) gateways
by_gateways-each gateways [] known = omega arith
by_gateways-each gateways (e ∷ es) known =
    let rest : by_gateways es ≤ total (λ (g : ℕ). count_of g es) gateways = by_gateways-each gateways es known.1 in
    let parts : total (λ (g : ℕ). count_of g (e ∷ es)) gateways ≡ total (one e.caller.0) gateways + total (λ (g : ℕ). count_of g es) gateways =
    total-same (λ (g : ℕ). count_of g (e ∷ es)) (λ (g : ℕ). one e.caller.0 g + count_of g es) gateways (λ g. more g (e.caller.0 == g)) ∙ total-add (one e.caller.0) (λ (g : ℕ). count_of g es) gateways in
    let own : cond {A = ℕ} (e.caller.0 == 0) 0 1 ≤ total (one e.caller.0) gateways = by (e.caller.0 == 0) refl in
    omega (arith, rest, parts, own)
  where
    more : (g : ℕ) (b : Bool) → length (cond b (e ∷ entries_by g es) (entries_by g es)) ≡ cond {A = ℕ} b 1 0 + length (entries_by g es)
    more g true = omega arith
    more g false = omega arith

    by : (b : Bool) → (e.caller.0 == 0) ≡ b → cond {A = ℕ} b 0 1 ≤ total (one e.caller.0) gateways
    by true is = omega arith
    by false is =
        let some : 1 ≤ e.caller.0 = let other = eqb-false e.caller.0 0 is in omega (arith, other) in
        let here : total (one e.caller.0) gateways ≡ 1 = total-one e.caller.0 gateways some known.0 in
        omega (arith, here)

-- each line that enters an event is of at most one gateway
lines-each : (gateways issue : ℕ) (made : List GatewayScriptLine) → total (λ (g : ℕ). length (lines_of issue g made)) gateways ≤ count_for issue made
lines-each gateways issue [] = let none : total (λ (g : ℕ). 0) gateways ≡ 0 = total-zero gateways in omega (arith, none)
lines-each gateways issue (of ∷ made) =
    let rest : total (λ (g : ℕ). length (lines_of issue g made)) gateways ≤ count_for issue made = lines-each gateways issue made in
    let parts : total (λ (g : ℕ). length (lines_of issue g (of ∷ made))) gateways ≡ total own gateways + total (λ (g : ℕ). length (lines_of issue g made)) gateways =
    total-same (λ (g : ℕ). length (lines_of issue g (of ∷ made))) (λ (g : ℕ). own g + length (lines_of issue g made)) gateways
    (λ g. more g (of.gateway.0 == g && of.line.issue == issue && is_event of.line.act)) ∙ total-add own (λ (g : ℕ). length (lines_of issue g made)) gateways in
    let sums : count_for issue (of ∷ made) ≡ cond {A = ℕ} (is_for issue of) 1 0 + count_for issue made = sum_by-cons (λ (l : GatewayScriptLine). cond {A = ℕ} (is_for issue l) 1 0) of made in
    let most : total own gateways ≤ cond {A = ℕ} (is_for issue of) 1 0 = by (of.line.issue == issue) (is_event of.line.act) in
    omega (arith, rest, parts, sums, most)
  where
    own : ℕ → ℕ
    own g = cond {A = ℕ} (of.gateway.0 == g && of.line.issue == issue && is_event of.line.act) 1 0

    more : (g : ℕ) (b : Bool) → length (cond b (of ∷ lines_of issue g made) (lines_of issue g made)) ≡ cond {A = ℕ} b 1 0 + length (lines_of issue g made)
    more g true = omega arith
    more g false = omega arith

    never : (b : Bool) → cond {A = ℕ} (b && false) 1 0 ≤ 0
    never true = omega arith
    never false = omega arith

    never-other : (b c : Bool) → cond {A = ℕ} (b && false && c) 1 0 ≤ 0
    never-other true c = omega arith
    never-other false c = omega arith

    always : (b : Bool) → cond {A = ℕ} (b && true && true) 1 0 ≤ cond {A = ℕ} b 1 0
    always true = omega arith
    always false = omega arith

    by : (b c : Bool) → total (λ (g : ℕ). cond {A = ℕ} (of.gateway.0 == g && b && c) 1 0) gateways ≤ cond {A = ℕ} (b && c) 1 0
    by true true =
        let most = total-most of.gateway.0 gateways in
        let same = total-le (λ (g : ℕ). cond {A = ℕ} (of.gateway.0 == g && true && true) 1 0) (one of.gateway.0) gateways (λ g some within. always (of.gateway.0 == g)) in
        omega (arith, most, same)
    by true false =
        let none = total-le (λ (g : ℕ). cond {A = ℕ} (of.gateway.0 == g && true && false) 1 0) (λ (g : ℕ). 0) gateways (λ g some within. never (of.gateway.0 == g && true)) in
        omega (arith, none, total-zero gateways)
    by false c =
        let none = total-le (λ (g : ℕ). cond {A = ℕ} (of.gateway.0 == g && false && c) 1 0) (λ (g : ℕ). 0) gateways (λ g some within. never-other (of.gateway.0 == g) c) in
        omega (arith, none, total-zero gateways)

-- ---- the room

asks-one : (event : Event) → asks event ≤ 1
asks-one (events.Order participant side kind qty) = omega arith
asks-one (events.Change participant target kind qty) = omega arith
asks-one (events.Cancel participant target) = omega arith
asks-one (events.Clock at) = omega arith
asks-one (events.Crash node) = omega arith
asks-one (events.Rejoin node) = omega arith

pub journal-has-room : LossesStayFew → NoJournalIsFull
journal-has-room law participants gateways issue made journal n gateway event of-gateways history within callers each some upto short =
    let front : List Entry = take n journal in
    let front-history : IsHistory participants front = follow-front participants n [] journal history in
    let few = law participants front front-history in
    let rejoined = rejoins-few participants [] front front-history in
    let split = entries-split front in
    let part = by_gateways-front n journal in
    let entered = by_gateways-each gateways journal (recursion_from_All (λ (e : Entry). e.caller.0 ≤ gateways) journal callers) in
    let fewer : total (λ (g : ℕ). count_of g journal) gateways + 1 ≤ total (λ (g : ℕ). length (lines_of issue g made)) gateways =
    total-less (λ (g : ℕ). count_of g journal) (λ (g : ℕ). length (lines_of issue g made)) gateway gateways each some upto short in
    let lines = lines-each gateways issue made in
    omega (arith, few, rejoined, split, part, entered, fewer, lines, asks-one event)
