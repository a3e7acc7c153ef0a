-- The words of the nodes' states, one after another.
use Rattle.std.proofs.Common.{◌≡◌, ℕ, ◌+◌, ◌<◌, zero, suc, List, [], ◌∷◌, ◌++◌, Option, Some, length, map, take, slice_get, append-nil, refl, sym, ap, subst, ◌∙◌, arith}
use Rattle.std.proofs.lemmas.List.{map-append, take_more}
use Rattle.std.proofs.lemmas.Option.{get_or_from_slice_get, slice_get_within}
use Rattle.mkt_base.specs.ReportWords.{node_state_word}
use Rattle.mkt_base.specs.declared.journal.NodeState.{NodeState}
use Rattle.mkt_base.specs.declared.journal.NodeState.TheVariants.{Lost}
use Rattle.mkt_io.specs.Printed.{Printed, PrintsWords}
use Rattle.mkt_io.specs.declared.printer.Printer.{Printer}

-- no word
pub no_words : {O : Type 0} {contents : O → Option (List ℕ)} {faults : O → ℕ} {p : Printer O} → PrintsWords contents faults p p []
no_words {O} {contents} {faults} {p} = record {
  same_sink = refl;
  printed = λ from text words before. let P : List (List ℕ) → Type 0 = λ ws. Printed contents faults from text ws p in subst P (sym (append-nil words)) before;
}

-- the words of the first nodes, and of one more
pub words-taken : (nodes : List NodeState) (i : ℕ) (state : NodeState) → slice_get nodes i ≡ Some state
    → map node_state_word (take i nodes) ++ node_state_word state ∷ [] ≡ map node_state_word (take (i + 1) nodes)
words-taken nodes i state is =
    let within : i < length nodes = slice_get_within nodes i state is in
    let more : take (i + 1) nodes ≡ take i nodes ++ state ∷ [] = take_more nodes i state within ∙ ap (λ s. take i nodes ++ s ∷ []) (get_or_from_slice_get nodes i state state is) in
    sym (ap (map node_state_word) more ∙ map-append node_state_word (take i nodes) (state ∷ []))

-- where all are lost each is
pub each-lost : (n : ℕ) → n < 3 → slice_get (Lost ∷ Lost ∷ Lost ∷ []) n ≡ Some Lost
each-lost zero h = refl
each-lost (suc zero) h = refl
each-lost (suc (suc zero)) h = refl
each-lost (suc (suc (suc n))) h = absurd (omega (arith, h))
