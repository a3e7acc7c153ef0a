-- A due step that is done, and how far a clock event has come by it.
use Rattle.std.proofs.Common.{◌≡◌, ℕ, zero, suc, ◌+◌, ◌<◌, ◌≤◌, List, [], ◌++◌, length, Option, Some, refl, sym, ap, subst, ◌∙◌, arith, append_assoc, append-nil}
use Rattle.std.specs.Option.{IfSome}
use Rattle.std.proofs.lemmas.List.Elements.{recursion_from_All}
use Rattle.mkt_base.specs.declared.output.Output.{Output}
use Rattle.mkt_base.specs.declared.quote.Quote.{Quote}
use Rattle.session_phase.specs.Sessions.{AreSessions, IsSession, next_boundary}
use Rattle.session_phase.specs.declared.session.Boundary.{Boundary}
use Rattle.session_phase.specs.declared.session.Boundary.TheVariants.{Accept, Begin, Finish}
use Rattle.session_phase.specs.declared.session.Session.{Session}
use Rattle.issue_book.specs.IssueView.{IssueView, in_state}
use Rattle.issue_book.specs.Quoting.{serve}
use Rattle.issue_book.specs.Sessions.{at_boundary, step_at}
use Rattle.issue_book.specs.State.{Move, State, Terms, stay}
use Rattle.issue_floor.specs.Floor.{IsShown}
use Rattle.issue_machine.specs.Advancing.{IsAdvancing, IsAllDone, IsBoundaryNext, IsOnWay, IsStepDone, behind_steps}
use Rattle.issue_machine.specs.Clock.{DueSteps, QuoteDue, boundaries_in, due_steps, most_steps, next_due, one_more, steps_to}
use Rattle.issue_machine.specs.Replying.{WasMoved}
use Rattle.issue_machine.specs.Standing.{AwaitsFinish}
use Rattle.issue_machine.proofs.BoundaryLemmas.{few-boundaries, finish-behind, now-ahead}
use Rattle.issue_machine.proofs.DueLemmas.{none-stepped, step_by, stepped-by}
use Rattle.issue_machine.proofs.MoveLemmas.{OfEach, WasBoundary, WasServed, boundary-keeps, of-each, phase_after, served-keeps}

-- ---- the step

-- behind a boundary the next one in trading is a finish
finish-after : (sessions : List Session) (now at : ℕ) (boundary : Boundary) → AreSessions sessions → next_boundary sessions now ≡ Some (at, boundary) → AwaitsFinish sessions at (phase_after boundary)
finish-after sessions now at Accept are e = λ trading. absurd cc
finish-after sessions now at Begin are e = λ trading. finish-behind sessions now at (recursion_from_All IsSession sessions are.each) e
finish-after sessions now at Finish are e = λ trading. absurd cc

pub boundary-done : {W : Type 0} (took : W → List Output → W → Type 0) (v new : IssueView) (passed to at : ℕ) (boundary : Boundary) (from on : W) → AreSessions v.terms.sessions
    → IsOnWay v.terms passed to v.state → IsBoundaryNext v.terms passed to v.state at boundary → WasMoved took (step_at at (at_boundary v.terms boundary) v.state) v new from on
    → IsStepDone took passed at to v new from on
boundary-done took v new passed to at boundary from on are way next moved =
    let m : Move = step_at at (at_boundary v.terms boundary) v.state in
    let was : WasBoundary OfEach of-each at boundary v.state m.state = boundary-keeps OfEach of-each v.terms at boundary v.state in
    let ahead : v.state.now ≤ at = subst (λ (o : Option (ℕ × Boundary)). IfSome o (λ b. v.state.now ≤ b.0)) next.next way.ahead in
    record {
      move = m;
      moved = moved;
      step = λ most. stepped-by most v.terms to (boundaries_in v.terms passed to) v.state
          ∙ ap (step_by (due_steps most v.terms to) v.terms (boundaries_in v.terms passed to) v.state) next.due;
      way = record {
        behind = omega (arith, was.now);
        upto = omega (arith, was.now, next.upto);
        ahead = subst (λ (n : ℕ). IfSome (next_boundary v.terms.sessions at) (λ b. n ≤ b.0)) (sym was.now) (now-ahead v.terms.sessions at);
        finish = subst (AwaitsFinish v.terms.sessions at) (sym was.phase) (finish-after v.terms.sessions passed at boundary are next.next);
      };
      fewer = let count = ap length next.first in omega (arith, was.now, count, ahead, next.upto);
    }

-- a shown quote is due later than now
pub shown-later : (t : Terms) (s : State) (q : Quote) (at : ℕ) → IfSome s.quote (IsShown t s) → s.quote ≡ Some q → q.due ≡ Some at → s.now < at
shown-later t s q at all shown due =
    let is : IsShown t s q = subst (λ (o : Option Quote). IfSome o (IsShown t s)) shown all in
    let when : (s.now < at) × (at < 86400000) = subst (λ (o : Option ℕ). IfSome o (λ d. (s.now < d) × (d < 86400000))) due is.due in
    when.0

pub quote-done : {W : Type 0} (took : W → List Output → W → Type 0) (v new : IssueView) (passed to at : ℕ) (q : Quote) (from on : W) → IfSome v.state.quote (IsShown v.terms v.state)
    → IsOnWay v.terms passed to v.state → v.state.quote ≡ Some q → q.due ≡ Some at → next_due to (boundaries_in v.terms passed to) v.state.quote ≡ QuoteDue at q → at ≤ to
    → IfSome (next_boundary v.terms.sessions passed) (λ b. at ≤ b.0) → WasMoved took (step_at at (serve v.terms q) v.state) v new from on
    → IsStepDone took passed passed to v new from on
quote-done took v new passed to at q from on all way shown moment due upto ahead moved =
    let m : Move = step_at at (serve v.terms q) v.state in
    let was : WasServed OfEach of-each at v.state m.state = served-keeps OfEach of-each v.terms at q v.state in
    let late : v.state.now < at = shown-later v.terms v.state q at all shown moment in
    record {
      move = m;
      moved = moved;
      step = λ most. stepped-by most v.terms to (boundaries_in v.terms passed to) v.state
          ∙ ap (step_by (due_steps most v.terms to) v.terms (boundaries_in v.terms passed to) v.state) due;
      way = record {
        behind = omega (arith, was.now, way.behind, late);
        upto = omega (arith, was.now, upto);
        ahead = subst (λ (n : ℕ). IfSome (next_boundary v.terms.sessions passed) (λ b. n ≤ b.0)) (sym was.now) ahead;
        finish = subst (AwaitsFinish v.terms.sessions passed) (sym was.phase) way.finish;
      };
      fewer = omega (arith, was.now, late, upto);
    }

-- ---- all of them

same-done : (n : ℕ) (d : DueSteps) → n ≡ d.steps → (record { steps = n; move = d.move }) ≡ d
same-done n d e = ap (λ (x : ℕ). record { steps = x; move = d.move }) e

none-behind : (d : DueSteps) → d ≡ behind_steps 0 [] d
none-behind d = ap (λ (x : ℕ). record { steps = x; move = d.move }) (omega arith)

-- none is done at first
pub advance-first : {W : Type 0} (took : W → List Output → W → Type 0) (passed to : ℕ) (v : IssueView) (w : W) → ((start : W) (outputs : List Output) → took start outputs w → took start (outputs ++ []) w)
    → AreSessions v.terms.sessions → passed ≡ v.state.now → v.state.now ≤ to → to < 86400000 → AwaitsFinish v.terms.sessions v.state.now v.state.phase → IsAdvancing took passed to 0 v v w w
advance-first took passed to v w told are same upto day finish =
    subst (λ (n : ℕ). IsAdvancing took n to 0 v v w w) (sym same)
    (record {
      done = stay v.state;
      moved = record { state = refl; told = told };
      most = most_steps v.terms to v.state;
      enough = omega arith;
      few = omega (arith, few-boundaries v.terms v.state.now to are, day);
      exact = none-behind (steps_to v.terms to v.state);
      way = record { behind = omega arith; upto = upto; ahead = now-ahead v.terms.sessions v.state.now; finish = finish };
    })

one-behind : (steps : ℕ) (outputs more : List Output) (d : DueSteps) → behind_steps steps outputs (one_more more d) ≡ behind_steps (steps + 1) (outputs ++ more) d
one-behind steps outputs more d =
    ap (λ (n : ℕ). record { steps = n; move = record { state = d.move.state; outputs = outputs ++ (more ++ d.move.outputs) } }) (omega arith)
    ∙ ap (λ (os : List Output). record { steps = steps + 1 + d.steps; move = record { state = d.move.state; outputs = os } }) (sym (append_assoc outputs more d.move.outputs))

-- and one more
pub advance-more : {W : Type 0} (took : W → List Output → W → Type 0) (passed now_passed to steps : ℕ) (v mid new : IssueView) (from on then : W) → IsAdvancing took passed to steps v mid from on
    → IsStepDone took passed now_passed to mid new on then → IsAdvancing took now_passed to (steps + 1) v new from then
advance-more took passed now_passed to steps v mid new from on then h next =
    by-most h.most refl (subst (λ (x : IssueView). IsStepDone took passed now_passed to x new on then) h.moved.state next)
  where
    by-most : (most : ℕ) → h.most ≡ most → IsStepDone took passed now_passed to (in_state h.done.state v) new on then → IsAdvancing took now_passed to (steps + 1) v new from then
    by-most zero e one = absurd (omega (arith, h.enough, e, one.fewer))
    by-most (suc most) e one = record {
      done = record { state = one.move.state; outputs = h.done.outputs ++ one.move.outputs };
      moved = record {
        state = one.moved.state;
        told = λ start outputs was.
            subst (λ (os : List Output). took start os then) (append_assoc outputs h.done.outputs one.move.outputs) (one.moved.told start (outputs ++ h.done.outputs) (h.moved.told start outputs was));
      };
      most = most;
      enough = omega (arith, h.enough, e, one.fewer);
      few = omega (arith, h.few, e);
      exact =
          h.exact
          ∙ ap (λ (n : ℕ). behind_steps steps h.done.outputs (due_steps n v.terms to (boundaries_in v.terms passed to) h.done.state)) e
          ∙ ap (behind_steps steps h.done.outputs) (one.step most)
          ∙ one-behind steps h.done.outputs one.move.outputs (due_steps most v.terms to (boundaries_in v.terms now_passed to) one.move.state);
      way = one.way;
    }

-- with nothing due they are all
ended-exact : {W : Type 0} (took : W → List Output → W → Type 0) (passed to steps : ℕ) (v mid : IssueView) (from on : W) (h : IsAdvancing took passed to steps v mid from on) → IsAllDone mid.terms passed to mid.state
    → steps_to v.terms to v.state ≡ behind_steps steps h.done.outputs (record { steps = 0; move = stay h.done.state })
ended-exact took passed to steps v mid from on h none =
    let over : IsAllDone v.terms passed to h.done.state = subst (λ (x : IssueView). IsAllDone x.terms passed to x.state) h.moved.state none in
    h.exact ∙ ap (behind_steps steps h.done.outputs) (none-stepped h.most v.terms to (boundaries_in v.terms passed to) h.done.state over.due)

pub advance-steps : {W : Type 0} (took : W → List Output → W → Type 0) (passed to steps : ℕ) (v mid : IssueView) (from on : W) → IsAdvancing took passed to steps v mid from on → IsAllDone mid.terms passed to mid.state
    → steps ≡ (steps_to v.terms to v.state).steps
advance-steps took passed to steps v mid from on h none =
    let same = ap (λ (d : DueSteps). d.steps) (ended-exact took passed to steps v mid from on h none) in
    omega (arith, same)

pub advance-moved : {W : Type 0} (took : W → List Output → W → Type 0) (passed to steps : ℕ) (v mid new : IssueView) (from on then : W) → IsAdvancing took passed to steps v mid from on → IsAllDone mid.terms passed to mid.state
    → new ≡ mid → then ≡ on → WasMoved took (steps_to v.terms to v.state).move v new from then
advance-moved took passed to steps v mid new from on then h none same still =
    let m : Move = (steps_to v.terms to v.state).move in
    let exact : m ≡ record { state = h.done.state; outputs = h.done.outputs ++ [] } = ap (λ (d : DueSteps). d.move) (ended-exact took passed to steps v mid from on h none) in
    let outputs : m.outputs ≡ h.done.outputs = ap (λ (x : Move). x.outputs) exact ∙ append-nil h.done.outputs in
    record {
      state = same ∙ h.moved.state ∙ ap (λ (x : Move). in_state x.state v) (sym exact);
      told = λ start os was.
          subst (λ (w : _). took start (os ++ m.outputs) w) (sym still) (subst (λ (more : List Output). took start (os ++ more) on) (sym outputs) (h.moved.told start os was));
    }
