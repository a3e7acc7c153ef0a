-- What a watch was told by one move behind another.
use Rattle.std.proofs.Common.{◌≡◌, ℕ, List, [], ◌∷◌, ◌++◌, refl, subst, append_assoc}
use Rattle.mkt_base.specs.declared.event.Phase.TheVariants.{Idle}
use Rattle.mkt_base.specs.declared.order.Order.{Order}
use Rattle.mkt_base.specs.declared.output.Output.{Output}
use Rattle.mkt_base.specs.declared.output.Output.TheVariants.{Due}
use Rattle.session_phase.specs.declared.session.Boundary.TheVariants.{Finish}
use Rattle.zaraba.specs.declared.stop.Stop.{Stop}
use Rattle.issue_book.specs.Entering.{arrival_at, arrive, arrived, quote_for}
use Rattle.issue_book.specs.IssueView.{IssueView, in_state}
use Rattle.issue_book.specs.Quoting.{Tried, answer_at}
use Rattle.issue_book.specs.Sessions.{at_boundary, close_at, close_window, closed_by, end_quote, enter_phase, step_at}
use Rattle.issue_book.specs.State.{Move, State, Terms, ◌then◌}

pub told-then : {W : Type 0} (took : W → List Output → W → Type 0) (from to : W) (outputs first second : List Output)
    → took from ((outputs ++ first) ++ second) to → took from (outputs ++ (first ++ second)) to
told-then took from to outputs first second h = rw append_assoc at h

pub told-thrice : {W : Type 0} (took : W → List Output → W → Type 0) (from to : W) (outputs first second third : List Output)
    → took from (((outputs ++ first) ++ second) ++ third) to → took from (outputs ++ ((first ++ second) ++ third)) to
told-thrice took from to outputs first second third h =
    told-then took from to outputs (first ++ second) third (subst (λ (told : List Output). took from (told ++ third) to) (append_assoc outputs first second) h)

-- the moment that is due, and then what is done at it
pub told-due : {W : Type 0} (took : W → List Output → W → Type 0) (from to : W) (outputs : List Output) (at : ℕ) (v u : IssueView) (does : Terms → State → Move)
    → u ≡ in_state (record v.state { now = at }) v → took from ((outputs ++ Due at ∷ []) ++ (does u.terms u.state).outputs) to
    → took from (outputs ++ (step_at at (does v.terms) v.state).outputs) to
told-due took from to outputs at v u does after h =
    subst (λ (x : IssueView). took from (outputs ++ (Due at ∷ [] ++ (does x.terms x.state).outputs)) to) after
    (told-then took from to outputs (Due at ∷ []) (does u.terms u.state).outputs h)

-- an order that trades at once, and the quote that begins where it stops
pub arrive-outputs : (v a : IssueView) (o : Order) (first : ℕ) (stop : Stop) → a ≡ in_state (arrived o v.state (arrival_at v.terms o v.state)).state v
    → first ≡ v.state.last → stop ≡ (arrival_at v.terms o v.state).stop
    → (arrived o v.state (arrival_at v.terms o v.state)).outputs ++ (quote_for a.terms first stop a.state).outputs ≡ (arrive v.terms o v.state).outputs
arrive-outputs v a o first stop after is why = rw (after, is, why) refl

-- the auction of a close, the quote's end, and the idle phase
pub close-outputs : (v a b : IssueView) (w : Tried) → w ≡ close_window v.terms v.state.quote v.state → a ≡ in_state (close_at v.terms w v.state).state v
    → (close_at v.terms w v.state).outputs ++ (end_quote a.state).outputs ++ (enter_phase Idle b.state).outputs ≡ (at_boundary v.terms Finish v.state).outputs
close-outputs v a b w over after =
    rw after (subst (λ (y : Tried). (close_at v.terms w v.state).outputs ++ (end_quote (close_at v.terms w v.state).state).outputs ++ (enter_phase Idle b.state).outputs
    ≡ (closed_by v.terms y v.state (answer_at v.terms y v.state) then enter_phase Idle).outputs) over refl)
