-- The first row that fails, and what is told of it.
use Rattle.std.proofs.Common.{◌≡◌, ℕ, ◌-◌, ◌<◌, Bool, true, List, [], length, get_or, take, Result, Err, find, refl, sym, ap, ◌∙◌}
use Rattle.std.proofs.lemmas.List.{get_or_default}
use Rattle.std.specs.List.{list_any, range_with_len}
use Rattle.std.specs.Str.{bytes_eq}
use Rattle.rules_file.specs.Faults.{Fails, IsTold}
use Rattle.rules_file.specs.Keys.{checked, first_failing, name_at, stands_earlier}
use Rattle.rules_file.specs.declared.fault.RulesFault.{RulesFault}
use Rattle.rules_file.specs.declared.fault.RulesFault.TheVariants.{Memory}
use Rattle.rules_file.proofs.FormLemmas.{find-here}

-- a fault that is told is the one that reading gives
pub Fails-told : {A : Type 0} (told fault : RulesFault) (read : Result A RulesFault) → read ≡ Err told → IsTold told fault → Fails fault read
Fails-told told Memory read e t = tt
Fails-told told fault read e t = e ∙ ap Err (sym t)

-- a fault of one reading is a fault of the other
pub Fails-as : {A B : Type 0} (fault : RulesFault) (read : Result A RulesFault) (all : Result B RulesFault) → ((told : RulesFault) → read ≡ Err told → all ≡ Err told) → Fails fault read → Fails fault all
Fails-as Memory read all same fails = tt
Fails-as fault read all same fails = same fault fails

-- the checks of rows, where the first that fails is among those that are left
module _ {A : Type 0} (fails : List A → ℕ → Bool) (fault : ℕ → RulesFault) (rows : List A) (i : ℕ)
    (left : find (fails rows) (range_with_len i (length rows - i)) ≡ first_failing fails rows) where
  pub checked-here : i < length rows → fails rows i ≡ true → checked fails fault rows ≡ Err (fault i)
  unfolding checked
  checked-here less failed = rw (← left, find-here (fails rows) i (length rows) less failed) refl

-- the name at a place of a list
pub name_at-is : (rows : List (List ℕ)) (i : ℕ) (name : List ℕ) → i < length rows → name ≡ get_or rows i name → name ≡ name_at rows i
name_at-is rows i name less is = is ∙ get_or_default rows i name [] less

-- whether the name at a place stands earlier
pub stands_earlier-is : (rows : List (List ℕ)) (i : ℕ) (name : List ℕ) → i < length rows → name ≡ get_or rows i name → stands_earlier rows i ≡ list_any (bytes_eq name) (take i rows)
unfolding stands_earlier
stands_earlier-is rows i name less is =
    ap (λ n. list_any (bytes_eq n) (take i rows)) (sym (name_at-is rows i name less is))
