-- K7: wrong tools that say why: one that takes an empty map for a missing subsection, or an empty group for a missing one; that gives a neighbour of another group, the first index or the last one as the nearest, or both neighbours exchanged; that counts positions from 1, or over all groups; that gives a reason for a payload that is refused further on. Ruled out by tables of inputs, each with what every result must say that meets the promise.
use Rattle.std.specs.Prelude.{ℕ, List, [], ◌∷◌}
use Rattle.std.proofs.Math.Option.{none, some}
use Rattle.format.specs.Examples.{hex}
use Rattle.format.specs.Reading.{Judged, accepted, refused}
use Rattle.format.specs.Why.{Why, named, no_subsection, no_group, no_entry}
use Rattle.promises.specs.RuledOut.{Row, ◌demands◌}

-- a payload and a function: no subsection 1; an empty map; below, above and at one entry; between, at and behind three; refused behind the map
abbrev pub function_rows : List (Row (List ℕ × ℕ) (Judged Why))
function_rows =
    (hex "02 01 00", 0) demands accepted no_subsection ∷
    (hex "01 01 00", 0) demands accepted (no_entry none none) ∷
    (hex "01 04 01 05 01 61", 4) demands accepted (no_entry none (some 5)) ∷
    (hex "01 04 01 05 01 61", 6) demands accepted (no_entry (some 5) none) ∷
    (hex "01 04 01 05 01 61", 5) demands accepted (named 1 0) ∷
    (hex "01 0A 03 01 01 61 02 01 62 07 01 63", 3) demands accepted (no_entry (some 2) (some 7)) ∷
    (hex "01 0A 03 01 01 61 02 01 62 07 01 63", 7) demands accepted (named 1 2) ∷
    (hex "01 0A 03 01 01 61 02 01 62 07 01 63", 9) demands accepted (no_entry (some 7) none) ∷
    (hex "01 04 01 05 01 61 01 00", 5) demands refused 9 6 ∷
    []

-- a payload, a function and a local: no subsection 2; no group at all, and none for that function; an empty group; positions and neighbours in the second of two groups; refused behind it
abbrev pub local_rows : List (Row (List ℕ × ℕ × ℕ) (Judged Why))
local_rows =
    (hex "01 01 00", 0, 0) demands accepted no_subsection ∷
    (hex "02 01 00", 0, 0) demands accepted no_group ∷
    (hex "02 03 01 03 00", 2, 0) demands accepted no_group ∷
    (hex "02 03 01 03 00", 3, 0) demands accepted (no_entry none none) ∷
    (hex "02 0E 02 01 01 00 01 61 03 02 02 01 62 05 01 63", 3, 5) demands accepted (named 2 1) ∷
    (hex "02 0E 02 01 01 00 01 61 03 02 02 01 62 05 01 63", 3, 0) demands accepted (no_entry none (some 2)) ∷
    (hex "02 0E 02 01 01 00 01 61 03 02 02 01 62 05 01 63", 3, 3) demands accepted (no_entry (some 2) (some 5)) ∷
    (hex "02 0E 02 01 01 00 01 61 03 02 02 01 62 05 01 63", 1, 1) demands accepted (no_entry (some 0) none) ∷
    (hex "02 0F 02 01 01 00 01 61 03 02 02 01 62 05 01 63 00", 3, 5) demands refused 10 16 ∷
    []
