-- A word by its bytes.
use Rattle.std.proofs.Common.{◌≡◌, ℕ, ◌<◌, List, [], ◌∷◌, length, get_or, below_more}
use Rattle.std.proofs.lemmas.List.{ext_get_or}
use borrow.Author.Count.{below_none}

-- six bytes, one by one
pub six-bytes : (word : List ℕ) (a b c d e f : ℕ) → length word ≡ 6 → get_or word 0 0 ≡ a → get_or word 1 0 ≡ b → get_or word 2 0 ≡ c → get_or word 3 0 ≡ d → get_or word 4 0 ≡ e
    → get_or word 5 0 ≡ f → word ≡ a ∷ b ∷ c ∷ d ∷ e ∷ f ∷ []
six-bytes word a b c d e f size at0 at1 at2 at3 at4 at5 =
    let bytes = a ∷ b ∷ c ∷ d ∷ e ∷ f ∷ [] in
    let P : ℕ → Type 0 = λ k. get_or word k 0 ≡ get_or bytes k 0 in
    let all : (k : ℕ) → k < 6 → P k = below_more P 5 (below_more P 4 (below_more P 3 (below_more P 2 (below_more P 1 (below_more P 0 (below_none P) at0) at1) at2) at3) at4) at5 in
    ext_get_or 0 word bytes size (λ k h. all k (rw (← size) h))
