-- Values and names, as the code holds them and as the definitions see them.
use Rattle.std.proofs.Common.{◌≡◌, ℕ, suc, ◌+◌, ◌-◌, ◌<◌, ◌≤◌, Bool, true, false, not, ◌||◌, cond, List, [], ◌∷◌, ◌++◌, length, map, Some, None, find, position, Vec, Global, refl, sym, ap, ◌∙◌, arith}
use Rattle.std.proofs.lemmas.Bool.{false≢true}
use Rattle.std.proofs.lemmas.Str.{IsUtf8-from_is_utf8, is_utf8-from_IsUtf8}
use Rattle.std.proofs.lemmas.List.{length-map, map-append}
use Rattle.std.specs.List.{list_any, position_or_len, prefix_len, range_with_len}
use Rattle.indexmap.specs.IndexSet.{insert_key}
use Rattle.std.specs.Prelude.{IsUtf8}
use Rattle.std.specs.Str.{bytes_eq, is_utf8}
use Rattle.toml.specs.Data.{Data, Members, as_array}
use Rattle.toml.specs.Parse.{parse_document}
use Rattle.toml.specs.View.{items_view, view}
use Rattle.toml.specs.declared.value.Value.{Value}
use Rattle.rules_file.specs.Forms.{document_of, is_empty_list, items_in, list_of}

-- the items of a list of values
pub list_of-items_view : (vs : List Value) → list_of (items_view vs) ≡ map view vs
list_of-items_view [] = refl
list_of-items_view (v ∷ vs) = ap (λ ds. view v ∷ ds) (list_of-items_view vs)

pub items_in-array : (vs : List Value) (d : Data) → Some (items_view vs) ≡ as_array d → Some (map view vs) ≡ items_in d
unfolding items_in
items_in-array vs d e = rw (← e, list_of-items_view vs) refl

pub document_of-read : (bytes : List ℕ) (ms : Members) → IsUtf8 bytes → parse_document bytes ≡ Some ms → document_of bytes ≡ Some ms
unfolding document_of
document_of-read bytes ms utf8 e = rw (is_utf8-from_IsUtf8 bytes utf8) e

refused_at : (b : Bool) (bytes : List ℕ) → is_utf8 bytes ≡ b → (IsUtf8 bytes → parse_document bytes ≡ None) → cond b (parse_document bytes) None ≡ None
refused_at true bytes is refused = refused (IsUtf8-from_is_utf8 bytes is)
refused_at false bytes is refused = refl

pub document_of-refused : (bytes : List ℕ) → (IsUtf8 bytes → parse_document bytes ≡ None) → document_of bytes ≡ None
unfolding document_of
document_of-refused bytes refused = refused_at (is_utf8 bytes) bytes refl refused

prefix_len-map : {A B : Type 0} (f : A → B) (p : B → Bool) (xs : List A) → prefix_len (λ x. p (f x)) xs ≡ prefix_len p (map f xs)
prefix_len-map f p [] = refl
prefix_len-map f p (x ∷ xs) = ap (λ n. cond (p (f x)) (1 + n) 0) (prefix_len-map f p xs)

-- a test finds the same place before and after a map
pub position-map : {A B : Type 0} (f : A → B) (p : B → Bool) (xs : List A) → position (λ x. p (f x)) xs ≡ position p (map f xs)
position-map f p xs =
    let places : position_or_len (λ x. p (f x)) xs ≡ position_or_len p (map f xs) = prefix_len-map f (λ y. not (p y)) xs in
    let lengths : length (map f xs) ≡ length xs = simp length-map in
    rw (places, lengths) refl

pub list_any-map : {A B : Type 0} (f : A → B) (p : B → Bool) (xs : List A) → list_any (λ x. p (f x)) xs ≡ list_any p (map f xs)
list_any-map f p [] = refl
list_any-map f p (x ∷ xs) = ap (λ b. p (f x) || b) (list_any-map f p xs)

-- a new key goes last
pub insert_key-fresh : (keys : List (Vec ℕ Global)) (key : Vec ℕ Global) (names : List (List ℕ)) → map (λ k. k.items) keys ≡ names → list_any (bytes_eq key.items) names ≡ false
    → map (λ k. k.items) (insert_key (λ a b. bytes_eq a.items b.items) keys key) ≡ names ++ key.items ∷ []
insert_key-fresh keys key names same fresh =
    let absent : list_any (λ k. bytes_eq key.items k.items) keys ≡ false = list_any-map (λ k. k.items) (bytes_eq key.items) keys ∙ ap (list_any (bytes_eq key.items)) same ∙ fresh in
    rw absent (rw (map-append, same) refl)

-- an array that is not empty has an item
pub items_in-some : (d : Data) (items : List Data) → is_empty_list d ≡ false → Some items ≡ items_in d → 1 ≤ length items
unfolding is_empty_list
items_in-some d [] full is = absurd (false≢true (sym full ∙ rw (← is) refl))
items_in-some d (x ∷ items) full is = omega arith

-- the first of the numbers from i on that passes a test
pub find-here : (p : ℕ → Bool) (i n : ℕ) → i < n → p i ≡ true → find p (range_with_len i (n - i)) ≡ Some i
find-here p i n less passes =
    let more : n - i ≡ suc (n - (i + 1)) = omega arith in
    rw (more, passes) refl

pub find-later : (p : ℕ → Bool) (i n : ℕ) → i < n → p i ≡ false → find p (range_with_len i (n - i)) ≡ find p (range_with_len (i + 1) (n - (i + 1)))
find-later p i n less fails =
    let more : n - i ≡ suc (n - (i + 1)) = omega arith in
    rw (more, fails) refl
