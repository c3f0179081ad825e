-- Rules R13.4 to R13.11 of docs/RULES.md.
-- K8. The rule of the quick question, said without any search: of any bytes, any lists and any end. "With the markers made from this payload the answer equals the full one; with others it still follows this rule." Assumes nothing.
use Rattle.std.specs.Prelude.{ℕ, suc, ◌≤◌, ◌<◌, List, ◌≡◌, length, get_or}
use Rattle.std.proofs.Math.Option.{Option, none, some}
use Rattle.std.proofs.Math.Seq.{slice}
use Rattle.format.specs.Refusals.{number_of}
use Rattle.format.specs.Reading.{got, stop, Judged, accepted, refused}
use Rattle.format.specs.Numbers.{limit32}
use Rattle.format.specs.Parts.{Part}
use Rattle.format.specs.Markers.{Entry, entry}
use Rattle.format.specs.declared.Reason.TheVariants.{SubsectionTooLarge, NotMarkers}

-- "either list not strictly rising or an offset not below the end"
pub data AtFault (end : ℕ) (is os : List ℕ) : ℕ → Type 0 where
  index_stays_lem : {i : ℕ} → get_or is (suc i) 0 ≤ get_or is i 0 → AtFault end is os (suc i)
  offset_stays_lem : {i : ℕ} → get_or os (suc i) 0 ≤ get_or os i 0 → AtFault end is os (suc i)
  not_below : {i : ℕ} → end ≤ get_or os i 0 → AtFault end is os i

-- "at the first such position"
pub record FirstFault (end : ℕ) (is os : List ℕ) (i : ℕ) : Type 0 where
  pub within : i < length is
  pub fault : AtFault end is os i
  pub least : (j : ℕ) → j < i → AtFault end is os j → ⊥

abbrev pub NoFault : (end : ℕ) (is os : List ℕ) → Type 0
NoFault end is os = (i : ℕ) → i < length is → AtFault end is os i → ⊥

-- "It starts at the last marker not above the index asked", by its position
pub record LastNotAbove (key : ℕ) (is : List ℕ) (i : ℕ) : Type 0 where
  pub within : i < length is
  pub not_above_lem : get_or is i 0 ≤ key
  pub last : (j : ℕ) → i < j → j < length is → key < get_or is j 0

abbrev pub AllAbove : (key : ℕ) (is : List ℕ) → Type 0
AllAbove key is = (i : ℕ) → i < length is → key < get_or is i 0

-- "reads at most sixteen entries, none past the end, and the first with that index answers. A number of refusal 3, or an entry that doesn't fit before the end, met first, is answered none"
pub data Reads (key : ℕ) : (most o : ℕ) (bs : List ℕ) → Option Part → Type 0 where
  all_read : {o : ℕ} {bs : List ℕ} → Reads key 0 o bs none
  cannot_read : {most o n at : ℕ} {bs : List ℕ} → entry o bs ≡ stop n at → Reads key (suc most) o bs none
  answers : {most o o' : ℕ} {bs rest : List ℕ} {e : Entry} → entry o bs ≡ got e o' rest → key ≡ e.index → Reads key (suc most) o bs (some e.text)
  another : {most o o' : ℕ} {bs rest : List ℕ} {e : Entry} {x : Option Part} → entry o bs ≡ got e o' rest → (key ≡ e.index → ⊥) → Reads key most o' rest x → Reads key (suc most) o bs x

-- what is answered, of lists without fault
pub data Answers (bs is os : List ℕ) (end key : ℕ) : Option Part → Type 0 where
  no_marker : AllAbove key is → Answers bs is os end key none
  at_marker : {i : ℕ} {x : Option Part} → LastNotAbove key is i → Reads key 16 (get_or os i 0) (slice (get_or os i 0) end bs) x → Answers bs is os end key x

-- THE RULE: "15 for a payload above 4,294,967,295 bytes (first in the quick question); 22, lists of unequal length (at the shorter's length), then an end outside the payload (at the list's length), then either list not strictly rising or an offset not below the end"
pub data Follows (bs is os : List ℕ) (end key : ℕ) : Judged (Option Part) → Type 0 where
  too_long : limit32 ≤ length bs → Follows bs is os end key (refused (number_of SubsectionTooLarge) 0)
  fewer_indices : length bs < limit32 → length is < length os → Follows bs is os end key (refused (number_of NotMarkers) (length is))
  fewer_offsets : length bs < limit32 → length os < length is → Follows bs is os end key (refused (number_of NotMarkers) (length os))
  end_outside : length bs < limit32 → length is ≡ length os → length bs < end → Follows bs is os end key (refused (number_of NotMarkers) (length is))
  not_markers : {i : ℕ} → length bs < limit32 → length is ≡ length os → end ≤ length bs → FirstFault end is os i → Follows bs is os end key (refused (number_of NotMarkers) i)
  answered : {x : Option Part} → length bs < limit32 → length is ≡ length os → end ≤ length bs → NoFault end is os → Answers bs is os end key x → Follows bs is os end key (accepted x)
