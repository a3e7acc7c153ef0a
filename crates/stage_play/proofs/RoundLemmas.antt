-- A round more of a block.
use Rattle.std.proofs.Common.{◌≡◌, ℕ, suc, ◌+◌, ◌*◌, ◌<◌, ◌≤◌, List, length, take, drop, ◌++◌, replicate, slice_index_or, sym, ap, subst, ◌∙◌, arith}
use Rattle.std.proofs.Math.Seq.{drop-append_seam, take-append_seam}
use Rattle.std.proofs.lemmas.List.{length-append, length-replicate}
use Rattle.mkt_base.specs.Desk.{DeskState}
use Rattle.mkt_base.specs.declared.event.Event.{Event}
use Rattle.mkt_base.specs.declared.quote.Board.{Board}
use Rattle.all_gather.specs.Rounds.{Keeps}
use Rattle.stage_law.specs.Come.{Cut}
use Rattle.stage_play.specs.Blocks.{Advances, cuts_after, next_cuts, nothing, sights_of}
use Rattle.stage_play.specs.Playing.{HasDone, HasLevelled, HasRun, desk_at}
use Rattle.stage_play.specs.Seen.{sight_at}
use Rattle.stage_play.specs.declared.notes.Note.{Note}
use Rattle.stage_play.specs.declared.part.Part.{Part}
use Rattle.stage_play.proofs.NoteLemmas.{InSight, note-within}
use Rattle.stage_play.proofs.PlayLemmas.{IsWithin, done-more}

-- the cuts after one round
one-cuts : (issues width stage : ℕ) (cuts : ℕ → ℕ → Cut) (board : List Note) → next_cuts cuts stage (sights_of issues board) ≡ cuts_after issues width stage cuts 1 board
one-cuts issues width stage cuts board =
    ap (λ (n : ℕ). next_cuts cuts stage (sights_of issues (drop n board))) (no-times width) ∙ ap (λ (n : ℕ). next_cuts cuts n (sights_of issues (drop (0 * width) board))) (none-more stage)
  where
    no-times : (n : ℕ) → 0 ≡ 0 * n
    no-times n = omega arith

    none-more : (n : ℕ) → n ≡ n + 0
    none-more n = omega arith

module _ {D F : Type 0} (state : D → DeskState) (fixed : D → F) (caller : F → ℕ) (takes : F → Event → Type 0) (tells : D → Board → ℕ → Type 0) where
  -- what a gateway noted of its own desks is within what all have noted
  pub own-within : (issues first many : ℕ) (board now : List Note) (q : Part D) → length q.desks.items ≡ issues → many ≡ issues → first + issues ≤ length now
      → ((issue : ℕ) (d : D) (n : Note) → issue < length q.desks.items → slice_index_or board (first + issue) n ≡ record { issue = issue; sight = sight_at (state (slice_index_or q.desks.items issue d)) })
      → Keeps first many board now → (issue : ℕ) (d : D) → issue < issues → IsWithin (slice_index_or (sights_of issues now) issue nothing) (state (desk_at q issue d))
  own-within issues first many board now q each same room notes keeps issue d there =
      let n : Note = record { issue = issue; sight = sight_at (state (desk_at q issue d)) } in
      let is : slice_index_or now (first + issue) n ≡ n =
      keeps (first + issue) n (omega arith) (omega (arith, there, same)) ∙ notes issue d n (subst (λ (m : ℕ). issue < m) (sym each) there) in
      let one = note-within now (replicate issues nothing) (first + issue) n (omega (arith, there, room)) (subst (λ (m : Note). m.issue < length (replicate issues nothing)) (sym is) (subst (λ (k : ℕ). issue < k) (sym (length-replicate issues nothing)) there)) in
      let both = subst (λ (m : Note). InSight m.sight (slice_index_or (sights_of issues now) m.issue nothing)) is one in
      record { seen = both.seen; ended = both.halted }

  -- one round
  pub one-round : (issues width stage : ℕ) (board : List Note) (p q r : Part D) → HasRun state fixed tells stage p q → HasLevelled state fixed caller takes tells (sights_of issues board) q r
      → ((issue : ℕ) (d : D) → issue < issues → IsWithin (slice_index_or (sights_of issues board) issue nothing) (state (desk_at q issue d))) → Advances state fixed caller takes tells issues width stage 1 board p r
  one-round issues width stage board p q r run level within = record {
    to = λ old stages cuts ready done.
        subst (λ (c : ℕ → ℕ → Cut). HasDone state fixed caller takes tells issues (stage + 1) c old r) (one-cuts issues width stage cuts board)
        (done-more state fixed caller takes tells issues stages stage cuts (sights_of issues board) old p q r ready done run level within);
  }

  -- rounds, and one more
  pub round-more : (issues width stage i : ℕ) (notes board : List Note) (p q r : Part D) → length notes ≡ i * width → Advances state fixed caller takes tells issues width stage i notes p q
      → Advances state fixed caller takes tells issues width (stage + i) 1 board q r → Advances state fixed caller takes tells issues width stage (i + 1) (notes ++ board) p r
  round-more issues width stage i notes board p q r many first second = record {
    to = λ old stages cuts ready done.
        subst (λ (n : ℕ). HasDone state fixed caller takes tells issues n (cuts_after issues width stage cuts (i + 1) (notes ++ board)) old r) (three stage i)
        (subst (λ (c : ℕ → ℕ → Cut). HasDone state fixed caller takes tells issues ((stage + i) + 1) c old r) (sym (cuts-more cuts))
        (second.to old stages (cuts_after issues width stage cuts i notes) ready (first.to old stages cuts ready done)));
  }
    where
      three : (a b : ℕ) → (a + b) + 1 ≡ a + (b + 1)
      three a b = omega arith

      cuts-more : (cuts : ℕ → ℕ → Cut) → cuts_after issues width stage cuts (i + 1) (notes ++ board) ≡ cuts_after issues width (stage + i) (cuts_after issues width stage cuts i notes) 1 board
      cuts-more cuts =
          let front : take (i * width) (notes ++ board) ≡ notes = subst (λ (n : ℕ). take n (notes ++ board) ≡ notes) many (take-append_seam notes board) in
          let back : drop (i * width) (notes ++ board) ≡ board = subst (λ (n : ℕ). drop n (notes ++ board) ≡ board) many (drop-append_seam notes board) in
          ap (λ (n : ℕ). cuts_after issues width stage cuts n (notes ++ board)) next
          ∙ ap (λ (ns : List Note). next_cuts (cuts_after issues width stage cuts i ns) (stage + i) (sights_of issues (drop (i * width) (notes ++ board)))) front
          ∙ ap (λ (ns : List Note). next_cuts (cuts_after issues width stage cuts i notes) (stage + i) (sights_of issues ns)) back
          ∙ one-cuts issues width (stage + i) (cuts_after issues width stage cuts i notes) board
        where
          next : i + 1 ≡ suc i
          next = omega arith

  -- none yet
  pub no-round : (issues width stage : ℕ) (notes : List Note) (p : Part D) → Advances state fixed caller takes tells issues width stage 0 notes p p
  no-round issues width stage notes p = record { to = λ old stages cuts ready done. subst (λ (n : ℕ). HasDone state fixed caller takes tells issues n cuts old p) (none-more stage) done }
    where
      none-more : (n : ℕ) → n ≡ n + 0
      none-more n = omega arith

times-more : (t w : ℕ) → (t + 1) * w ≡ t * w + w
times-more t w = grind arith

-- what is left of the cells after a round more
pub rest-more : (t less rest cells w now : ℕ) → now ≡ w → less + w ≡ rest → rest + t * w ≡ cells → less + (t + 1) * now ≡ cells
rest-more t less rest cells w now is split before = ap (λ (n : ℕ). less + (t + 1) * n) is ∙ ap (λ (n : ℕ). less + n) (times-more t w) ∙ (let p = split in omega (arith, p, before))

-- how many were gathered
pub gathered-more : {X : Type 0} (t w now : ℕ) (xs ys all : List X) → now ≡ w → all ≡ xs ++ ys → length xs ≡ t * w → length ys ≡ w → length all ≡ (t + 1) * now
gathered-more t w now xs ys all same is many one =
    ap (λ zs. length zs) is ∙ length-append xs ys ∙ ap (λ (n : ℕ). n + length ys) many ∙ ap (λ (n : ℕ). t * w + n) one ∙ sym (times-more t w) ∙ ap (λ (n : ℕ). (t + 1) * n) (sym same)
