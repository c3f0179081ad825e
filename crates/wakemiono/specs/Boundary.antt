-- The four fields of an answer at the C boundary. Assumes nothing.
use Rattle.std.specs.Prelude.{ℕ, Bool, true, false, List, ◌≡◌, length}
use Rattle.std.proofs.Math.Option.{Option, none, some}
use Rattle.format.specs.Entries.{Listed, fitting_rows, lists_after, rows_found}
use Rattle.format.specs.Markers.{Markers, made_as, indices_of, offsets_of}
use Rattle.format.specs.Options.{map_some}
use Rattle.format.specs.Outputs.{write_answer, over, output_after}
use Rattle.format.specs.Reading.{Judged, accepted, refused, map_judged}
use Rattle.format.specs.declared.Hint.{Hint}
use Rattle.format.specs.declared.Hint.TheVariants.{Unlikely, Likely}
use Rattle.format.specs.declared.Place.{Place}
use Rattle.walk.specs.declared.survey.SectionPlace.{SectionPlace}
use Rattle.wakemiono.specs.declared.WmAnswer.{WmAnswer}

-- by kind
abbrev pub wm_none : WmAnswer
wm_none = record { kind = 0; code = 0; offset = 0; length = 0 }

abbrev pub wm_found : (code offset length : ℕ) → WmAnswer
wm_found code offset length = record { kind = 1; code = code; offset = offset; length = length }

abbrev pub wm_refused : (number offset : ℕ) → WmAnswer
wm_refused number offset = record { kind = 2; code = number; offset = offset; length = 0 }

-- what a call answers, from what it means: none, something found, or a refusal
abbrev pub wm_answer : {A : Type 0} → (A → WmAnswer) → Judged (Option A) → WmAnswer
wm_answer found (accepted none) = wm_none
wm_answer found (accepted (some v)) = found v
wm_answer found (refused n at) = wm_refused n at

-- a place; a section: its id, the offset of its id byte, the length of its contents; a count of sections, or of bytes written
abbrev pub wm_place : Judged (Option Place) → WmAnswer
wm_place j = wm_answer (λ p. wm_found 0 p.offset.0 p.length) j

abbrev pub wm_section : Judged (Option SectionPlace) → WmAnswer
wm_section j = wm_answer (λ s. wm_found s.id s.at.0 s.length) j

abbrev pub wm_count : Judged ℕ → WmAnswer
wm_count (accepted n) = wm_found 0 0 n
wm_count (refused n at) = wm_refused n at

-- a judgement: the length of what was accepted
abbrev pub wm_judged : ℕ → Judged (Unit {0}) → WmAnswer
wm_judged length (accepted v) = wm_found 0 0 length
wm_judged length (refused n at) = wm_refused n at

-- a hint has its own kinds
abbrev pub wm_hinted : Hint → WmAnswer
wm_hinted Unlikely = record { kind = 3; code = 0; offset = 0; length = 0 }
wm_hinted Likely = record { kind = 4; code = 0; offset = 0; length = 0 }

abbrev pub wm_hint : Judged (Option Hint) → WmAnswer
wm_hint j = wm_answer wm_hinted j

-- a yes or no
abbrev pub wm_yes : Bool → ℕ
wm_yes true = 1
wm_yes false = 0

-- a write: the answer, and the whole end state of the output
pub record WmWrites (wanted : Judged (List ℕ)) (old new : List ℕ) (a : WmAnswer) : Type 0 where
  pub says : a ≡ wm_count (write_answer (length old) wanted)
  pub leaves : new ≡ output_after wanted old

-- K8: the answer to making markers, and the whole end state of both lists
pub record WmMakes (wanted : Judged Markers) (is os is' os' : List ℕ) (a : WmAnswer) : Type 0 where
  pub says : a ≡ wm_place (map_judged made_as wanted)
  pub indices : is' ≡ over (map_judged indices_of wanted) is
  pub offsets : os' ≡ over (map_judged offsets_of wanted) os

-- every entry in one pass: the answer, and the whole end state of all lists
pub record WmLists {X : Type 0} (columns : List (Listed X → ℕ)) (found : Judged (Option (List (Listed X)))) (lists lists' : List (List ℕ)) (a : WmAnswer) : Type 0 where
  pub says : a ≡ wm_place (map_judged (map_some rows_found) (fitting_rows lists found))
  pub leaves : lists' ≡ lists_after columns (fitting_rows lists found) lists
