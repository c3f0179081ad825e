-- Rules R2.2 and R3.1 of docs/RULES.md.
-- What a step of the walk says. Assumes nothing.
use Rattle.std.specs.Prelude.{ℕ, ◌≤◌, ◌<◌, List, [], ◌≡◌, length, drop, Ok, Err, Some, None}
use Rattle.std.proofs.Math.Option.{Option, none, some}
use Rattle.format.specs.Reading.{Outcome, got, Reader, ◌>>=◌, ◌>>◌, return}
use Rattle.format.specs.Parts.{Part, inside}
use Rattle.format.specs.Walk.{preamble, begins, custom, row_of, Section as AnySection, Seen as SeenBefore, nothing, seeing, name_rules, step}
use Rattle.reading.specs.Cursors.{part_of, refusal_of}
use Rattle.reading.specs.declared.Cursor.{Cursor}
use Rattle.walk.specs.Sections.{seen_of, section_of, SectionInside}
use Rattle.walk.specs.declared.step.Section.{Section as ASection}
use Rattle.walk.specs.Returned.{Began}
use Rattle.walk.specs.Returned.{Step}
use Rattle.walk.specs.declared.step.Walk.{Walk}

-- a section and the offset behind it, none at the end, or a refusal
abbrev pub step_outcome : List ℕ → Walk → Step → Outcome (Option AnySection)
step_outcome m w (Ok (Some (s, next))) = got (some (section_of m s)) next.at (drop next.at m)
step_outcome m w (Ok None) = got none w.at []
step_outcome m w (Err r) = refusal_of r

-- what the rules know behind it
abbrev pub StepSeen : List ℕ → Walk → Step → Type 0
StepSeen m w (Ok (Some (s, next))) = seen_of next.seen ≡ seeing (seen_of w.seen) (section_of m s)
StepSeen m w (Ok None) = Unit {0}
StepSeen m w (Err r) = Unit {0}

-- it lies in the module, and the walk goes on behind it
pub record Forward (m : List ℕ) (w : Walk) (s : ASection) (next : Walk) : Type 0 where
  pub inside : SectionInside m s
  pub moves : w.at < next.at
  pub within : next.at ≤ length m

abbrev pub StepForward : List ℕ → Walk → Step → Type 0
StepForward m w (Ok (Some (s, next))) = Forward m w s next
StepForward m w (Ok None) = Unit {0}
StepForward m w (Err r) = Unit {0}

pub record Steps (m : List ℕ) (w : Walk) (r : Step) : Type 0 where
  pub means : step_outcome m w r ≡ step (seen_of w.seen) w.at (drop w.at m)
  pub seen : StepSeen m w r
  pub forward : StepForward m w r

-- a section behind its size
unfoldable pub behind_size : SeenBefore → ℕ → ℕ → Part → Reader (Option AnySection)
behind_size seen at id part = do
  c ← inside (custom id) part
  name_rules seen at (row_of c)
  return (some (record { id = id; at = at; contents = part; custom = c }))

pub record AfterSize (m : List ℕ) (w : Walk) (id : ℕ) (contents : Cursor) (next : ℕ) (r : Step) : Type 0 where
  pub means : step_outcome m w r ≡ behind_size (seen_of w.seen) w.at id (part_of m contents) next (drop next m)
  pub seen : StepSeen m w r
  pub forward : StepForward m w r

-- The walk behind the preamble, or refusal 1
abbrev pub begin_outcome : List ℕ → Began → Outcome (Unit {0})
begin_outcome m (Ok w) = got tt w.at (drop w.at m)
begin_outcome m (Err r) = refusal_of r

abbrev pub BeginSeen : List ℕ → Began → Type 0
BeginSeen m (Ok w) = (seen_of w.seen ≡ nothing) × (w.at ≤ length m)
BeginSeen m (Err r) = Unit {0}

pub record Begins (m : List ℕ) (r : Began) : Type 0 where
  pub means : begin_outcome m r ≡ begins preamble 0 m
  pub seen : BeginSeen m r
