-- Texts that are told by choices: at each point the next line tells a choice, and lines that it forces follow.
use Rattle.std.proofs.Common.{◌≡◌, ℕ, List, [], ◌∷◌, ◌++◌, Option, Some, None, append_assoc, refl, sym, ap, ◌∙◌}

-- what may be chosen where, the line that tells it, the lines behind that, what is known then, and the choice that a line tells
pub record Form (S C : Type 0) : Type 1 where
  pub allows : S → C → Type 0
  pub line : S → C → List ℕ
  pub forced : S → C → List (List ℕ)
  pub next : S → C → S
  pub read : S → List ℕ → Option C

module _ {S C : Type 0} (f : Form S C) where
  -- the lines of choices
  abbrev pub lines_from : S → List C → List (List ℕ)
  lines_from s [] = []
  lines_from s (c ∷ cs) = f.line s c ∷ (f.forced s c ++ lines_from (f.next s c) cs)

  -- what is known behind them
  abbrev pub after : S → List C → S
  after s [] = s
  after s (c ∷ cs) = after (f.next s c) cs

  -- each of them is allowed
  abbrev pub IsPath : S → List C → Type 0
  IsPath s [] = Unit {0}
  IsPath s (c ∷ cs) = f.allows s c × IsPath (f.next s c) cs

  -- the choices that lines tell; the other lines are skipped
  abbrev pub gather : S → List (List ℕ) → List C
  gather s [] = []
  gather s (l ∷ ls) = elim (f.read s l) [ None ↦ gather s ls | Some c ↦ c ∷ gather (f.next s c) ls ]

  -- no line tells a choice
  abbrev pub Unread : S → List (List ℕ) → Type 0
  Unread s [] = Unit {0}
  Unread s (l ∷ ls) = (f.read s l ≡ None) × Unread s ls

  -- choices are read back, and forced lines tell none
  pub record IsReadable : Type 0 where
    pub reads : (s : S) (c : C) → f.allows s c → f.read s (f.line s c) ≡ Some c
    pub sound : (s : S) (l : List ℕ) (c : C) → f.read s l ≡ Some c → f.allows s c
    pub unread : (s : S) (c : C) → f.allows s c → Unread (f.next s c) (f.forced s c)

  gather-read : (s : S) (l : List ℕ) (ls : List (List ℕ)) (c : C) → f.read s l ≡ Some c → gather s (l ∷ ls) ≡ c ∷ gather (f.next s c) ls
  gather-read s l ls c e = rw (e, gather) refl

  gather-skip : (s : S) (l : List ℕ) (ls : List (List ℕ)) → f.read s l ≡ None → gather s (l ∷ ls) ≡ gather s ls
  gather-skip s l ls e = rw (e, gather) refl

  pub gather-unread : (s : S) (xs ls : List (List ℕ)) → Unread s xs → gather s (xs ++ ls) ≡ gather s ls
  gather-unread s [] ls unread = refl
  gather-unread s (x ∷ xs) ls unread = gather-skip s x (xs ++ ls) unread.0 ∙ gather-unread s xs ls unread.1

  -- the lines of choices, and of others behind them
  pub lines_from-append : (s : S) (cs ds : List C) → lines_from s (cs ++ ds) ≡ lines_from s cs ++ lines_from (after s cs) ds
  lines_from-append s [] ds = refl
  lines_from-append s (c ∷ cs) ds =
      ap (λ ls. f.line s c ∷ (f.forced s c ++ ls)) (lines_from-append (f.next s c) cs ds)
      ∙ ap (λ ls. f.line s c ∷ ls) (sym (append_assoc (f.forced s c) (lines_from (f.next s c) cs) (lines_from (after (f.next s c) cs) ds)))

  -- lines whose first ones are read are told again up to these
  abbrev Kept : S → List (List ℕ) → List (List ℕ) → List (List ℕ) → Type 0
  Kept s xs front b = (rest : List (List ℕ)) × (xs ++ lines_from s (gather s (front ++ b)) ≡ front ++ rest)

  -- the same of lines behind forced ones
  pub behind : (s : S) (xs all b : List (List ℕ)) → Unread s xs → ((front a : List (List ℕ)) → all ≡ front ++ a → Kept s [] front b)
      → (front a : List (List ℕ)) → xs ++ all ≡ front ++ a → Kept s xs front b
  behind s [] all b unread kept front a e = kept front a e
  behind s (x ∷ xs) all b unread kept [] a e = (_, refl)
  behind s (x ∷ xs) all b unread kept (y ∷ front) a e =
      let same : x ≡ y = cc in
      let tails : xs ++ all ≡ front ++ a = cc in
      let more = behind s xs all b unread.1 kept front a tails in
      let skipped : gather s (y ∷ (front ++ b)) ≡ gather s (front ++ b) = gather-skip s y (front ++ b) (rw (← same) unread.0) in
      (more.0, ap (λ cs. (x ∷ xs) ++ lines_from s cs) skipped ∙ ap (λ ls. x ∷ ls) more.1 ∙ ap (λ l. l ∷ (front ++ more.0)) same)

  module _ (readable : IsReadable) where
    -- the choices of allowed choices' lines
    pub gather-lines : (s : S) (cs : List C) → IsPath s cs → gather s (lines_from s cs) ≡ cs
    gather-lines s [] path = refl
    gather-lines s (c ∷ cs) path =
        gather-read s (f.line s c) _ c (readable.reads s c path.0)
        ∙ ap (λ ds. c ∷ ds) (gather-unread (f.next s c) (f.forced s c) _ (readable.unread s c path.0) ∙ gather-lines (f.next s c) cs path.1)

    -- all choices that lines tell are allowed
    pub gather-path : (s : S) (ls : List (List ℕ)) → IsPath s (gather s ls)
    gather-path s [] = tt
    gather-path s (l ∷ ls) = at (f.read s l) refl (λ t. gather-path t ls)
      where
        at : (r : Option C) → f.read s l ≡ r → ((t : S) → IsPath t (gather t ls)) → IsPath s (elim r [ None ↦ gather s ls | Some c ↦ c ∷ gather (f.next s c) ls ])
        at None e more = more s
        at (Some c) e more = (readable.sound s l c e, more (f.next s c))

    -- lines that go along with lines of allowed choices are told again as far as they go
    pub determined : (s : S) (cs : List C) (b front a : List (List ℕ)) → IsPath s cs → lines_from s cs ≡ front ++ a → Kept s [] front b
    determined s cs b [] a path e = (_, refl)
    determined s [] b (x ∷ front) a path e = absurd (cc)
    determined s (c ∷ cs) b (x ∷ front) a path e =
        let same : f.line s c ≡ x = cc in
        let tails : f.forced s c ++ lines_from (f.next s c) cs ≡ front ++ a = cc in
        let read : gather s (x ∷ (front ++ b)) ≡ c ∷ gather (f.next s c) (front ++ b) = gather-read s x (front ++ b) c (rw (← same) (readable.reads s c path.0)) in
        let more = behind (f.next s c) (f.forced s c) (lines_from (f.next s c) cs) b (readable.unread s c path.0)
        (λ front a e. determined (f.next s c) cs b front a path.1 e) front a tails in
        (more.0, ap (lines_from s) read ∙ ap (λ ls. f.line s c ∷ ls) more.1 ∙ ap (λ l. l ∷ (front ++ more.0)) same)
