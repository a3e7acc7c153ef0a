use Rattle.std.proofs.Common.{◌≡◌, ℕ, zero, suc, ◌<◌, sym, ap, subst, ◌∙◌, arith}
use Rattle.mirror.specs.Replicas.{Replica}
use Rattle.script_run.specs.Nodes.{node_label}
use Rattle.script_run.proofs.ClosingLemmas.{given-back, label-apart}
use Rattle.script_run.proofs.closing.close_issue.Goals as goal

-- what holds of three numbers holds of each below three
three : (P : ℕ → Type 0) → P 0 → P 1 → P 2 → (k : ℕ) → k < 3 → P k
three P a b c zero less = a
three P a b c (suc zero) less = b
three P a b c (suc (suc zero)) less = c
three P a b c (suc (suc (suc k))) less = absurd (omega arith)

pub returns-clause-given : goal.returns-clause-given
returns-clause-given g c =
    let given = g.R.Rack.given in
    let n = c.args.number in
    let i = c.args.issue in
    let one = (c.give-3.ensures.others (node_label n 0) (label-apart n 0 2 c.node_no-3.result c.node_no-3.ensures (λ (e : 0 ≡ 2). absurd (omega (arith, e))))).1
    ∙ (c.give-2.ensures.others (node_label n 0) (label-apart n 0 1 c.node_no-2.result c.node_no-2.ensures (λ (e : 0 ≡ 1). absurd (omega (arith, e))))).1
    ∙ ap (λ (k : ℕ). given c.give.new.self (node_label n k)) (sym c.node_no.ensures) ∙ c.give.ensures.returned in
    let two = (c.give-3.ensures.others (node_label n 1) (label-apart n 1 2 c.node_no-3.result c.node_no-3.ensures (λ (e : 1 ≡ 2). absurd (omega (arith, e))))).1
    ∙ ap (λ (k : ℕ). given c.give-2.new.self (node_label n k)) (sym c.node_no-2.ensures) ∙ c.give-2.ensures.returned in
    let three = ap (λ (k : ℕ). given c.give-3.new.self (node_label n k)) (sym c.node_no-3.ensures) ∙ c.give-3.ensures.returned in
    given-back i _ _ _
    (record { contents = ap (λ (r : Replica). r.contents) c.close-closed.ensures.first; faults = ap (λ (r : Replica). r.faults) c.close-closed.ensures.first; most = ap (λ (r : Replica). r.most) c.close-closed.ensures.first })
    (record { contents = ap (λ (r : Replica). r.contents) c.close-closed.ensures.second; faults = ap (λ (r : Replica). r.faults) c.close-closed.ensures.second; most = ap (λ (r : Replica). r.most) c.close-closed.ensures.second })
    (record { contents = ap (λ (r : Replica). r.contents) c.close-closed.ensures.third; faults = ap (λ (r : Replica). r.faults) c.close-closed.ensures.third; most = ap (λ (r : Replica). r.most) c.close-closed.ensures.third })
    c.requires.labelled.place (given c.give-3.new.self) n c.requires.labelled.issue_now one two three

pub returns-clause-others : goal.returns-clause-others
returns-clause-others g c l other =
    let n = c.args.number in
    let a = c.give.ensures.others l (λ same. other 0 (omega arith) (same ∙ ap (λ (k : ℕ). node_label n k) c.node_no.ensures)) in
    let b = c.give-2.ensures.others l (λ same. other 1 (omega arith) (same ∙ ap (λ (k : ℕ). node_label n k) c.node_no-2.ensures)) in
    let d = c.give-3.ensures.others l (λ same. other 2 (omega arith) (same ∙ ap (λ (k : ℕ). node_label n k) c.node_no-3.ensures)) in
    ((λ out. a.0.0 (b.0.0 (d.0.0 out)), λ out. d.0.1 (b.0.1 (a.0.1 out))), d.1 ∙ b.1 ∙ a.1)

pub returns-clause-back : goal.returns-clause-back
returns-clause-back g c =
    let is_out = g.R.Rack.is_out in
    let n = c.args.number in
    let first : is_out c.give-3.new.self (node_label n 0) → ⊥ = λ (out : is_out c.give-3.new.self (node_label n 0)).
    c.give.ensures.back
    (subst (λ (k : ℕ). is_out c.give.new.self (node_label n k)) (sym c.node_no.ensures)
    ((c.give-2.ensures.others (node_label n 0) (label-apart n 0 1 c.node_no-2.result c.node_no-2.ensures (λ (e : 0 ≡ 1). absurd (omega (arith, e))))).0.0
    ((c.give-3.ensures.others (node_label n 0) (label-apart n 0 2 c.node_no-3.result c.node_no-3.ensures (λ (e : 0 ≡ 2). absurd (omega (arith, e))))).0.0 out))) in
    let second : is_out c.give-3.new.self (node_label n 1) → ⊥ = λ (out : is_out c.give-3.new.self (node_label n 1)).
    c.give-2.ensures.back
    (subst (λ (k : ℕ). is_out c.give-2.new.self (node_label n k)) (sym c.node_no-2.ensures)
    ((c.give-3.ensures.others (node_label n 1) (label-apart n 1 2 c.node_no-3.result c.node_no-3.ensures (λ (e : 1 ≡ 2). absurd (omega (arith, e))))).0.0 out)) in
    let third : is_out c.give-3.new.self (node_label n 2) → ⊥ = λ (out : is_out c.give-3.new.self (node_label n 2)).
    c.give-3.ensures.back (subst (λ (k : ℕ). is_out c.give-3.new.self (node_label n k)) (sym c.node_no-3.ensures) out) in
    three (λ (k : ℕ). is_out c.give-3.new.self (node_label n k) → ⊥) first second third
