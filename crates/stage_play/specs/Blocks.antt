-- Stages that are played in a block, in which each gateway reads what the others have noted.
use Rattle.std.specs.Prelude.{◌≡◌, ℕ, ◌+◌, ◌*◌, ◌^◌, ◌<◌, zero, suc, Bool, true, false, List, [], ◌∷◌, length, take, drop, replicate, Some, slice_index_or, slice_set}
use Rattle.mkt_base.specs.Desk.{DeskState}
use Rattle.mkt_base.specs.declared.event.Event.{Event}
use Rattle.mkt_base.specs.declared.quote.Board.{Board}
use Rattle.stage_law.specs.Come.{Cut, cut_at}
use Rattle.stage_play.specs.Playing.{HasDone, IsReady}
use Rattle.stage_play.specs.Seen.{joined}
use Rattle.stage_play.specs.declared.blocks.Member.{Member}
use Rattle.stage_play.specs.declared.blocks.Went.{Went}
use Rattle.stage_play.specs.declared.notes.Note.{Note}
use Rattle.stage_play.specs.declared.part.Part.{Part}
use Rattle.stage_play.specs.declared.seen.Sight.{Sight}

-- nothing is seen
abbrev pub nothing : Sight
nothing = record { seen = 0; halted = false }

-- where a stage of an issue begins, by what all desks have seen
abbrev pub cut_of : Sight → Cut
cut_of s = record { length = s.seen; halted = s.halted }

abbrev pub next_cuts : (ℕ → ℕ → Cut) → ℕ → List Sight → ℕ → ℕ → Cut
next_cuts cuts stage sights issue = cut_at (cuts issue) (stage + 1) (cut_of (slice_index_or sights issue nothing))

-- notes are added to what is known of their issues
abbrev pub noted : List Sight → List Note → List Sight
noted sights [] = sights
noted sights (n ∷ ns) = noted (slice_set sights n.issue (joined (slice_index_or sights n.issue nothing) n.sight)) ns

-- what notes say of so many issues
abbrev pub sights_of : ℕ → List Note → List Sight
sights_of issues notes = noted (replicate issues nothing) notes

-- where stages begin after so many rounds from a stage on, with so many notes in each
abbrev pub cuts_after : ℕ → ℕ → ℕ → (ℕ → ℕ → Cut) → ℕ → List Note → ℕ → ℕ → Cut
cuts_after issues width stage cuts zero notes = cuts
cuts_after issues width stage cuts (suc n) notes = next_cuts (cuts_after issues width stage cuts n (take (n * width) notes)) (stage + n) (sights_of issues (drop (n * width) notes))

-- so many stages from one on, with cells for all their notes
pub record IsBlock (stage count width cells : ℕ) : Type 0 where
  pub stages : stage + count < 2 ^ 32
  pub notes : cells ≡ count * width

-- what a gateway that has left a block knows of it: in which cell it has read whether it was played
pub record IsOf {D : Type 0} (cell : ℕ) (m : Member D) : Type 0 where
  pub went : Went
  pub is : m.went ≡ Some went
  pub of : went.go.of ≡ cell

-- the same: whether it was played, and what is noted in it
pub record Knows {D : Type 0} (go : Bool) (notes : List Note) (m : Member D) : Type 0 where
  pub went : Went
  pub is : m.went ≡ Some went
  pub said : went.go.value ≡ go
  pub read : go ≡ true → went.gathered.values ≡ notes

module _ {D F : Type 0} (state : D → DeskState) (fixed : D → F) (caller : F → ℕ) (takes : F → Event → Type 0) (tells : D → Board → ℕ → Type 0) where
  -- a gateway has come to a stage
  pub record HasComeTo (issues stage : ℕ) (part : Part D) : Type 0 where
    pub old : Part D
    pub stages : ℕ
    pub cuts : ℕ → ℕ → Cut
    pub ready : IsReady state fixed caller takes tells issues stages old
    pub done : HasDone state fixed caller takes tells issues stage cuts old part

  -- A gateway goes on by so many stages. Wherever those before began, these begin where the function says, which is the same for all gateways.
  pub record GoesOn (issues stage count : ℕ) (then : (ℕ → ℕ → Cut) → ℕ → ℕ → Cut) (p r : Part D) : Type 0 where
    pub to : (old : Part D) (stages : ℕ) (cuts : ℕ → ℕ → Cut) → IsReady state fixed caller takes tells issues stages old → HasDone state fixed caller takes tells issues stage cuts old p
        → HasDone state fixed caller takes tells issues (stage + count) (then cuts) old r

  abbrev pub AllGoOn : ℕ → ℕ → ℕ → ((ℕ → ℕ → Cut) → ℕ → ℕ → Cut) → List (Part D) → List (Part D) → Type 0
  AllGoOn issues stage count then ps rs = (k : ℕ) (p : Part D) → k < length ps → GoesOn issues stage count then (slice_index_or ps k p) (slice_index_or rs k p)

  -- the same by the notes of a block
  abbrev pub Advances : ℕ → ℕ → ℕ → ℕ → List Note → Part D → Part D → Type 0
  Advances issues width stage count notes p r = GoesOn issues stage count (λ cuts. cuts_after issues width stage cuts count notes) p r

  -- A gateway has left a block: it went on by it, or is as it was before, and knows which, and what is noted in the block.
  pub record HasLeft (issues width stage count cell : ℕ) (p : Part D) (m : Member D) : Type 0 where
    pub went : Went
    pub is : m.went ≡ Some went
    pub of : went.go.of ≡ cell
    pub stays : went.go.value ≡ false → m.part ≡ p
    pub on : went.go.value ≡ true → Advances issues width stage count went.gathered.values p m.part
