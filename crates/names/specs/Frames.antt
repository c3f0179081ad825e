-- Where the subsections' contents lie, whatever they hold. Assumes nothing.
use Rattle.std.specs.Prelude.{ℕ, zero, suc, ◌≤◌, ◌<◌, ◌+◌, List, [], ◌∷◌, ◌≡◌, leb, length, get_or, Ok, Err, Some, None}
use Rattle.std.proofs.Math.Option.{Option, none, some}
use Rattle.format.specs.Reading.{Outcome, got, Reader, and_then, ◌>>=◌, ◌>>◌, return, checked, Judged, accepted, judge, map_judged}
use Rattle.format.specs.Parts.{Part, sized}
use Rattle.format.specs.Tables.{Table, nil, row}
use Rattle.format.specs.Names.{Kind, Content, contents}
use Rattle.format.specs.declared.Reason.TheVariants.{SubsectionOrder}
use Rattle.format.specs.Canonical.{write_part}
use Rattle.format.specs.Telling.{as_few}
use Rattle.reading.specs.Cursors.{Inside, left, part_of, refusal_of}
use Rattle.reading.specs.Standing.{Known, TakesPart}
use Rattle.reading.specs.declared.Cursor.{Cursor}
use Rattle.names.specs.Returned.{FrameRead}
use Rattle.names.specs.declared.frames.Framed.{Framed}

-- an id, and the contents under it
pub record Headed : Type 0 where
  pub id : ℕ
  pub value : Part

-- the subsection that begins here, its id at least `least`, none at the end; refusal 9 gives the id byte
unfoldable pub frame : ℕ → Reader (Option Headed)
frame least o [] = got none o []
frame least o (id ∷ bs) = (do
  checked (leb least id) SubsectionOrder o
  part ← sized
  return (some (record { id = id; value = part }))) (suc o) bs

-- one after the other up to the end, the first id at least `least` and each above the one before. `most` bounds their number and is never met
abbrev pub onward : (ℕ → Reader (Table Part)) → Option Headed → Reader (Table Part)
onward more none = return nil
onward more (some h) = more (suc h.id) >>= λ t. return (row h.id h.value t)

unfoldable pub frames : (most least : ℕ) → Reader (Table Part)
frames zero least o bs = got nil o bs
frames (suc most) least o bs = and_then (frame least o bs) (onward (frames most))

-- of a payload that begins at an offset
unfoldable pub judge_frames : ℕ → List ℕ → Judged (Table Part)
judge_frames at bs = judge (frames (length bs) 0 at bs)

-- what stands under an id, read where it lies
abbrev pub read_under : Kind → Option Part → Judged (Option (Content Part))
read_under kind none = accepted none
read_under kind (some p) = map_judged some (judge (contents kind p.at p.bytes))

-- What reading one finds
abbrev pub frame_outcome : List ℕ → Cursor → FrameRead → Outcome (Option Headed)
frame_outcome s c (Ok (Some (id, part, next, shortest))) = got (some (record { id = id; value = part_of s part })) next.at (left s next)
frame_outcome s c (Ok None) = got none c.at []
frame_outcome s c (Err r) = refusal_of r

-- it lies inside, and the reading goes on behind it
pub record Forward (least : ℕ) (s : List ℕ) (c : Cursor) (id : ℕ) (part next : Cursor) : Type 0 where
  pub above : least ≤ id
  pub behind : c.at < part.at
  pub in_part : Inside s part
  pub in_rest : Inside s next
  pub moves : c.at < next.at
  pub same_end : next.end ≡ c.end

abbrev pub FrameForward : ℕ → List ℕ → Cursor → FrameRead → Type 0
FrameForward least s c (Ok (Some (id, part, next, shortest))) = Forward least s c id part next
FrameForward least s c (Ok None) = Unit {0}
FrameForward least s c (Err r) = Unit {0}

-- the cursor behind an id byte
abbrev pub behind_id : Cursor → Cursor
behind_id c = record { at = c.at + 1; end = c.end }

-- K10: handed on from its size's number
abbrev pub FrameTold : List ℕ → Cursor → FrameRead → Type 0
FrameTold s c (Ok (Some (id, part, next, told))) = told ≡ as_few (write_part (left s part)) (left s next) (left s (behind_id c))
FrameTold s c (Ok None) = Unit {0}
FrameTold s c (Err r) = Unit {0}

pub record FrameReads (least : ℕ) (s : List ℕ) (c : Cursor) (r : FrameRead) : Type 0 where
  pub means : frame_outcome s c r ≡ frame least c.at (left s c)
  pub forward : FrameForward least s c r
  pub tells : FrameTold s c r

-- One that was accepted: the id stands here, and its size and contents behind
pub record KnownFrame (s : List ℕ) (c : Cursor) : Type 0 where
  pub inside : Inside s c
  pub ahead : c.at < c.end
  pub contents : Known sized s (behind_id c)

pub record FrameStands (s : List ℕ) (c : Cursor) (r : Framed) : Type 0 where
  pub id_is : r.id ≡ get_or s c.at 0
  pub contents : TakesPart s (behind_id c) (record { part = r.part; next = r.next })
