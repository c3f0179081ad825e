-- What the functions write into the output. Assumes nothing.
use Rattle.std.specs.Prelude.{ℕ, List, [], ◌∷◌, ◌++◌, ◌≡◌}
use Rattle.std.proofs.Math.Option.{Option, none, some}
use Rattle.format.specs.Reading.{accepted}
use Rattle.format.specs.Options.{map_some}
use Rattle.format.specs.Parts.{place_of}
use Rattle.format.specs.Questions.{answered}
use Rattle.format.specs.Walk.{Section, walk, walk_from, payload_in}
use Rattle.format.specs.Listing.{Piece, text, num, line}
use Rattle.format.specs.Returned.{Answer}
use Rattle.format.specs.declared.Place.{Place}
use Rattle.walk.specs.Sections.{seen_of}
use Rattle.walk.specs.declared.step.Walk.{Walk}
use Rattle.writing.specs.Wrote.{Wrote}

-- Room for every listing: a line of a section has at most 64 bytes and a section at least 2, of 65,536; and for the three other lines
abbrev pub room : ℕ
room = 2_098_176

abbrev pub space : List ℕ
space = 32 ∷ []

-- a word, and behind a space the rest of its line
unfoldable pub labelled : List ℕ → List Piece → List ℕ
labelled label ps = label ++ (space ++ line ps)

-- where something lies, or none
unfoldable pub place_line : List ℕ → Option Place → List ℕ
place_line label none = labelled label (text "none" ∷ [])
place_line label (some p) = labelled label (num p.offset.0 ∷ num p.length ∷ [])

-- how many sections there are
unfoldable pub count_line : ℕ → List ℕ
count_line count = line (text "sections" ∷ num count ∷ [])

-- an answer's line, if it is not refused
pub record AnswerPut (label : List ℕ) (answer : Answer) (old new : List ℕ) (at next : ℕ) : Type 0 where
  pub says : (found : Option Place) → answered answer ≡ accepted found → Wrote old new at next (place_line label found)

-- the line of the payload of the first custom section of a name
unfoldable pub custom_line : (name label : List ℕ) → List Section → List ℕ
custom_line name label ss = place_line label (map_some place_of (payload_in name ss))

-- what is written of a module's sections, if it is accepted
pub record Adds (m : List ℕ) (lines : List Section → List ℕ) (old new : List ℕ) (at next : ℕ) : Type 0 where
  pub says : (ss : List Section) → walk m ≡ accepted ss → Wrote old new at next (lines ss)

-- and of those from a step of the walk on
pub record AddsFrom (m : List ℕ) (w : Walk) (lines : List Section → List ℕ) (old new : List ℕ) (at next : ℕ) : Type 0 where
  pub says : (ss : List Section) → walk_from m (seen_of w.seen) w.at ≡ accepted ss → Wrote old new at next (lines ss)
