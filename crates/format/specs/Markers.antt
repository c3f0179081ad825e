-- Rules R13.1 to R13.10 of docs/RULES.md.
-- K8. A marker list beside large maps. "From an accepted payload we want two lists of numbers, the function index and the offset of every sixteenth function entry, the first included, with the offset where their subsection ends (0 if there is no such subsection). A quick question is given these and doesn't judge the payload." Assumes nothing.
use Rattle.std.specs.Prelude.{ℕ, zero, suc, ◌+◌, cond, ◌&&◌, List, [], ◌∷◌, map, ◌≡◌, leb, ltb, eqb, length}
use Rattle.std.proofs.Math.Option.{Option, none, some}
use Rattle.std.proofs.Math.Seq.{slice}
use Rattle.format.specs.Refusals.{number_of}
use Rattle.format.specs.Reading.{Outcome, got, stop, Reader, ◌>>=◌, return, here, Judged, accepted, refused, judge, judged_then, map_judged}
use Rattle.format.specs.Numbers.{number, limit32}
use Rattle.format.specs.Options.{some_then}
use Rattle.format.specs.Parts.{Part, sized}
use Rattle.format.specs.Names.{Kind, kept, known_kind, judge_names}
use Rattle.format.specs.Questions.{asked, answered}
use Rattle.format.specs.Lists.{unless, provided}
use Rattle.format.specs.Outputs.{over}
use Rattle.format.specs.Returned.{Answer}
use Rattle.format.specs.declared.FunctionIndex.{FunctionIndex}
use Rattle.format.specs.declared.Place.{Place}
use Rattle.format.specs.declared.Query.TheVariants.{ItsContents}
use Rattle.format.specs.declared.Reason.TheVariants.{OutputTooShort, SubsectionTooLarge, NotMarkers}

-- an entry of a name map: its index, the offset of that number, and its text, which is not looked at
pub record Entry : Type 0 where
  pub index : ℕ
  pub offset : ℕ
  pub text : Part

unfoldable pub entry : Reader Entry
entry = do
  at ← here
  k ← number
  text ← sized
  return (record { index = k; offset = at; text = text })

unfoldable pub entries : (n : ℕ) → Reader (List Entry)
entries zero = return []
entries (suc n) = do
  e ← entry
  more ← entries n
  return (e ∷ more)

unfoldable pub all_entries : Reader (List Entry)
all_entries = do
  n ← number
  entries n

-- THE MARKERS of a payload. Of sixteen entries the first; so many are passed over before the next
unfoldable pub thinned : (before : ℕ) → List Entry → List Entry
thinned before [] = []
thinned zero (e ∷ es) = e ∷ thinned 15 es
thinned (suc before) (e ∷ es) = thinned before es

pub record Markers : Type 0 where
  pub marked : List Entry
  pub end : ℕ

-- where the subsection of function names lies: by a table that knows no id, nothing is looked into
abbrev pub unknown : ℕ → Kind
unknown id = kept

unfoldable pub functions_part : List ℕ → Judged (Option Part)
functions_part bs = asked unknown 1 ItsContents 0 bs

abbrev pub markers_in : Option Part → Judged Markers
markers_in none = accepted (record { marked = []; end = 0 })
markers_in (some p) = map_judged (λ es. record { marked = thinned 0 es; end = p.at + length p.bytes }) (judge (all_entries p.at p.bytes))

-- of a payload that the first edition accepts
unfoldable pub markers_of : List ℕ → Judged Markers
markers_of bs = judged_then (judge_names known_kind 0 bs) (λ t. judged_then (functions_part bs) markers_in)

-- "15 for a payload above 4,294,967,295 bytes"
unfoldable pub unless_long : {A : Type 0} → List ℕ → Judged A → Judged A
unless_long bs next = provided (ltb (length bs) limit32) SubsectionTooLarge next

-- "13 for short lists", at the number of markers: each of the two has to take them all
unfoldable pub fitting_both : (indices offsets : ℕ) → Markers → Judged Markers
fitting_both is os m = let n = length m.marked in cond (leb n is && leb n os) (accepted m) (refused (number_of OutputTooShort) n)

unfoldable pub made : (payload indices offsets : List ℕ) → Judged Markers
made bs is os = judged_then (markers_of bs) (λ m. unless_long bs (fitting_both (length is) (length os) m))

abbrev pub indices_of : Markers → List ℕ
indices_of m = map (λ e. e.index) m.marked

abbrev pub offsets_of : Markers → List ℕ
offsets_of m = map (λ e. e.offset) m.marked

-- the answer: where the subsection ends, and how many markers there are
abbrev pub made_as : Markers → Option Place
made_as m = some (record { offset = record { 0 = m.end }; length = length m.marked })

-- the answer, and the whole end state of both lists: the markers first, what is behind them unchanged; a refusal changes nothing
pub record Makes (wanted : Judged Markers) (is os is' os' : List ℕ) (r : Answer) : Type 0 where
  pub says : answered r ≡ map_judged made_as wanted
  pub indices : is' ≡ over (map_judged indices_of wanted) is
  pub offsets : os' ≡ over (map_judged offsets_of wanted) os

-- THE QUICK QUESTION, of any bytes with any lists. "22, lists of unequal length (at the shorter's length), then an end outside the payload (at the list's length), then either list not strictly rising or an offset not below the end (at the first such position)"
unfoldable pub first_fault : (end position least_index least_offset : ℕ) (indices offsets : List ℕ) → Option ℕ
first_fault end i k o [] os = none
first_fault end i k o (x ∷ is) [] = none
first_fault end i k o (x ∷ is) (y ∷ os) = cond (leb k x && leb o y && ltb y end) (first_fault end (suc i) (suc x) (suc y) is os) (some i)

unfoldable pub lists_fault : (size end : ℕ) (indices offsets : List ℕ) → Option ℕ
lists_fault size end is os =
    cond (ltb (length is) (length os)) (some (length is))
    (cond (ltb (length os) (length is)) (some (length os))
    (cond (ltb size end) (some (length is))
    (first_fault end 0 0 0 is os)))

-- "It starts at the last marker not above the index asked (no such marker: none)": where that entry stands
unfoldable pub last_not_above : (key : ℕ) (held : Option ℕ) (indices offsets : List ℕ) → Option ℕ
last_not_above key held [] os = held
last_not_above key held (x ∷ is) [] = held
last_not_above key held (x ∷ is) (y ∷ os) = last_not_above key (cond (leb x key) (some y) held) is os

-- "reads at most sixteen entries, none past the end, and the first with that index answers. A number of refusal 3, or an entry that doesn't fit before the end, met first, is answered none; text isn't checked"
abbrev pub answered_by : (key : ℕ) → (ℕ → List ℕ → Option Part) → Outcome Entry → Option Part
answered_by key next (got e o bs) = cond (eqb key e.index) (some e.text) (next o bs)
answered_by key next (stop n at) = none

unfoldable pub first_with : (most key : ℕ) → ℕ → List ℕ → Option Part
first_with zero key o bs = none
first_with (suc most) key o bs = answered_by key (first_with most key) (entry o bs)

unfoldable pub from_marker : (bs : List ℕ) (end key : ℕ) → Option ℕ → Option Part
from_marker bs end key start = some_then start (λ o. first_with 16 key o (slice o end bs))

unfoldable pub quick : (payload indices offsets : List ℕ) (end : ℕ) → FunctionIndex → Judged (Option Part)
quick bs is os end f =
    unless_long bs
    (unless (lists_fault (length bs) end is os) NotMarkers
    (accepted (from_marker bs end f.0 (last_not_above f.0 none is os))))
