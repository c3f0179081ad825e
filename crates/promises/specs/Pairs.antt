-- K3: wrong readers of two payloads: one that asks the own payload first, or alone; that passes over an empty name, an empty module name or empty kept contents; that says whose a name is the other way round; that leaves the own payload unjudged where the separate one has the name, or the separate one where it has not; and wrong joins: one that drops the own groups of a function that the separate payload has, takes the own name where both have one, keeps an empty map, or writes where a payload is refused. Ruled out by tables of inputs, each with what every result must say that meets the promise.
use Rattle.std.specs.Prelude.{ℕ, List, [], ◌∷◌}
use Rattle.std.proofs.Math.Option.{Option, none, some}
use Rattle.format.specs.Examples.{hex}
use Rattle.format.specs.Pairs.{Paired, agreed, refused_by, Supplied}
use Rattle.format.specs.Reading.{Judged, accepted, refused}
use Rattle.format.specs.declared.Place.{Place}
use Rattle.format.specs.declared.Question.{Question}
use Rattle.format.specs.declared.Question.TheVariants.{ModuleName, FunctionName, LocalName, GlobalName, KeptContents}
use Rattle.format.specs.declared.Whose.{Whose}
use Rattle.format.specs.declared.Whose.TheVariants.{Separate, Own}
use Rattle.promises.specs.RuledOut.{Row, ◌demands◌}

-- a question, the separate payload and the own one
abbrev pub Asked : Type 0
Asked = Question × List ℕ × List ℕ

abbrev pub from_function : ℕ → Question
from_function k = FunctionName (record { 0 = k })

abbrev pub of_local : (function local : ℕ) → Question
of_local k j = LocalName (record { 0 = k }) (record { 0 = j })

abbrev pub of_global : ℕ → Question
of_global k = GlobalName (record { 0 = k })

abbrev pub found : Whose → (offset long : ℕ) → Paired (Option (Supplied Place))
found w offset long = agreed (some (record { whose = w; value = record { offset = record { 0 = offset }; length = long } }))

-- a name in both, in one, in the other and in none; an empty name, an empty module name and empty kept contents before full ones; a local of a function that both have; either refused, and both
abbrev pub pair_rows : List (Row Asked (Paired (Option (Supplied Place))))
pair_rows =
    (from_function 0, hex "01 04 01 00 01 61", hex "01 05 01 00 02 62 63") demands found Separate 5 1 ∷
    (from_function 0, hex "01 04 01 00 01 61", hex "") demands found Separate 5 1 ∷
    (from_function 3, hex "01 04 01 00 01 61", hex "01 05 01 03 02 62 63") demands found Own 5 2 ∷
    (from_function 1, hex "01 04 01 00 01 61", hex "01 05 01 03 02 62 63") demands agreed none ∷
    (from_function 0, hex "01 03 01 00 00", hex "01 04 01 00 01 62") demands found Separate 5 0 ∷
    (ModuleName, hex "00 01 00", hex "00 02 01 62") demands found Separate 3 0 ∷
    (ModuleName, hex "01 01 00", hex "00 02 01 62") demands found Own 3 1 ∷
    (KeptContents 3, hex "03 00", hex "03 01 FF") demands found Separate 2 0 ∷
    (of_local 3 1, hex "02 06 01 03 01 00 01 78", hex "02 06 01 03 01 01 01 79") demands found Own 7 1 ∷
    (ModuleName, hex "00 02 01 61", hex "01 00") demands refused_by Own 2 2 ∷
    (ModuleName, hex "01 00", hex "00 02 01 61") demands refused_by Separate 2 2 ∷
    (ModuleName, hex "01 00", hex "02 01 00 01 01 00") demands refused_by Separate 2 2 ∷
    (ModuleName, hex "00 02 01 61", hex "07 01 FF") demands found Separate 3 1 ∷
    []

-- by the wider edition
abbrev pub wide_pair_rows : List (Row Asked (Paired (Option (Supplied Place))))
wide_pair_rows =
    (of_global 0, hex "07 04 01 00 01 67", hex "07 04 01 00 01 68") demands found Separate 5 1 ∷
    (of_global 1, hex "07 04 01 00 01 67", hex "07 04 01 01 01 68") demands found Own 5 1 ∷
    (KeptContents 7, hex "07 04 01 00 01 67", hex "07 04 01 01 01 68") demands agreed none ∷
    (ModuleName, hex "00 02 01 61", hex "07 01 FF") demands refused_by Own 2 2 ∷
    []

-- the separate payload, the own one and the output; what is said, and what the output holds then
abbrev pub Lent : Type 0
Lent = List ℕ × List ℕ × List ℕ

abbrev pub Outcome : Type 0
Outcome = Paired (Judged ℕ) × List ℕ

-- a name of both, and of the own one between two; groups of one function; an empty map and an empty group; an empty kept subsection before a full one; padded numbers; nothing; an output with a byte more, and one short by one; either refused
abbrev pub join_rows : List (Row Lent Outcome)
join_rows =
    (hex "01 04 01 00 01 61", hex "01 07 02 00 01 62 02 01 63", hex "77 77 77 77 77 77 77 77 77") demands (agreed (accepted 9), hex "01 07 02 00 01 61 02 01 63") ∷
    (hex "01 07 02 00 01 61 03 01 62", hex "01 04 01 02 01 63", hex "77 77 77 77 77 77 77 77 77 77 77 77 77") demands (agreed (accepted 12), hex "01 0A 03 00 01 61 02 01 63 03 01 62 77") ∷
    (hex "02 06 01 03 01 00 01 78", hex "02 06 01 03 01 01 01 79", hex "77 77 77 77 77 77 77 77 77 77 77") demands (agreed (accepted 11), hex "02 09 01 03 02 00 01 78 01 01 79") ∷
    (hex "01 01 00", hex "02 03 01 03 00", hex "77") demands (agreed (accepted 0), hex "77") ∷
    (hex "03 00", hex "03 01 FF", hex "77 77 77") demands (agreed (accepted 2), hex "03 00 77") ∷
    (hex "00 81 00 00", hex "00 02 01 62", hex "77 77 77 77") demands (agreed (accepted 3), hex "00 01 00 77") ∷
    (hex "", hex "", hex "77") demands (agreed (accepted 0), hex "77") ∷
    (hex "00 02 01 61", hex "03 00", hex "77 77 77 77 77") demands (agreed (refused 13 6), hex "77 77 77 77 77") ∷
    (hex "00 02 01 61", hex "01 00", hex "77 77 77 77 77") demands (refused_by Own 2 2, hex "77 77 77 77 77") ∷
    (hex "01 00", hex "02 01 00 01 01 00", hex "77") demands (refused_by Separate 2 2, hex "77") ∷
    []

-- an id that only the wider edition looks into
abbrev pub wide_join_rows : List (Row Lent Outcome)
wide_join_rows =
    (hex "07 04 01 00 01 67", hex "07 04 01 01 01 68", hex "77 77 77 77 77 77 77 77 77") demands (agreed (accepted 9), hex "07 07 02 00 01 67 01 01 68") ∷
    (hex "07 01 00", hex "", hex "77") demands (agreed (accepted 0), hex "77") ∷
    (hex "00 02 01 61", hex "07 01 FF", hex "77") demands (refused_by Own 2 2, hex "77") ∷
    []
