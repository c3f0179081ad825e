-- K2: wrong readers and writers of the older edition's hints: one that asks for order, or refuses a pair that stands twice; one whose last hint answers; one that reads the kind as a byte, or judges it after the offset is read; one that takes a padded byte for zero; one that asks one edition's section for the other's hints; one that keeps shadowed hints, two entries of a function, or an entry without hints; one that lists a pair twice, or with its last hint, out of order, or into a list that is too short. Ruled out by tables of inputs, each with what every result must say that meets the promise.
use Rattle.std.specs.Prelude.{ℕ, List, [], ◌∷◌, ◌++◌}
use Prim.Native.String.{String}
use Rattle.std.proofs.Math.Option.{Option, none, some}
use Rattle.format.specs.Canonical.{write_part}
use Rattle.format.specs.Entries.{older_rows, older_columns, fitting_rows, lists_after, rows_found}
use Rattle.format.specs.Examples.{hex}
use Rattle.format.specs.Options.{map_some}
use Rattle.format.specs.Reading.{Judged, accepted, refused, map_judged}
use Rattle.format.specs.Walk.{preamble, hint_section, older_hint_section}
use Rattle.format.specs.declared.FunctionIndex.{FunctionIndex}
use Rattle.format.specs.declared.Hint.{Hint}
use Rattle.format.specs.declared.Hint.TheVariants.{Unlikely, Likely}
use Rattle.format.specs.declared.InstructionOffset.{InstructionOffset}
use Rattle.format.specs.declared.Place.{Place}
use Rattle.promises.specs.RuledOut.{Row, ◌demands◌}

-- "That edition demands no order and allows repeats": functions that fall; a pair twice with other kinds, in one entry and over two; "however the kind is padded". "17, the byte is not zero, at that byte (missing: 2 at its place); 12 also for a kind above 1, at the kind, before the offset is read; 10 as before"
abbrev pub judged_rows : List (Row (List ℕ) (Judged (Unit {0})))
judged_rows =
    hex "02 07 00 01 01 05 01 00 01 00 02" demands accepted tt ∷
    hex "01 00 00 02 01 06 01 05" demands accepted tt ∷
    hex "01 00 00 02 01 05 00 05" demands accepted tt ∷
    hex "02 00 00 01 00 05 00 00 01 01 05" demands accepted tt ∷
    hex "01 00 00 01 80 00 05" demands accepted tt ∷
    hex "01 00 80 00 00" demands refused 17 2 ∷
    hex "01 00 01" demands refused 17 2 ∷
    hex "01 00" demands refused 2 2 ∷
    hex "01 00 00 01 02" demands refused 12 4 ∷
    hex "01 00 00 01 82 00" demands refused 12 4 ∷
    hex "01 00 00 01" demands refused 2 4 ∷
    hex "01 00 00 01 01" demands refused 2 5 ∷
    hex "01 00 00 01 80 80 80 80 10" demands refused 3 4 ∷
    hex "00 00" demands refused 10 1 ∷
    hex "01 00 00 00 00" demands refused 10 4 ∷
    []

-- "so the first hint in the file for a pair answers: unlikely for kind 0, likely for kind 1, however the kind is padded, and none without one"
abbrev pub asked_rows : List (Row (List ℕ × FunctionIndex × InstructionOffset) (Judged (Option Hint)))
asked_rows =
    (hex "02 07 00 01 01 05 01 00 01 00 02", record { 0 = 1 }, record { 0 = 2 }) demands accepted (some Unlikely) ∷
    (hex "02 07 00 01 01 05 01 00 01 00 02", record { 0 = 7 }, record { 0 = 5 }) demands accepted (some Likely) ∷
    (hex "02 07 00 01 01 05 01 00 01 00 02", record { 0 = 7 }, record { 0 = 2 }) demands accepted none ∷
    (hex "01 00 00 02 01 05 00 05", record { 0 = 0 }, record { 0 = 5 }) demands accepted (some Likely) ∷
    (hex "02 00 00 01 00 05 00 00 01 01 05", record { 0 = 0 }, record { 0 = 5 }) demands accepted (some Unlikely) ∷
    (hex "02 00 00 01 00 05 00 00 01 01 06", record { 0 = 0 }, record { 0 = 6 }) demands accepted (some Likely) ∷
    (hex "01 00 00 01 80 00 05", record { 0 = 0 }, record { 0 = 5 }) demands accepted (some Unlikely) ∷
    (hex "01 00 00 01 81 00 05", record { 0 = 0 }, record { 0 = 5 }) demands accepted (some Likely) ∷
    (hex "01 00 00 00", record { 0 = 0 }, record { 0 = 5 }) demands accepted none ∷
    (hex "00", record { 0 = 0 }, record { 0 = 5 }) demands accepted none ∷
    []

-- "so the editions are kept and asked apart": modules with one of the two sections, and with both. Of function 2 and offset 5 the older says unlikely and the newer likely. The walk comes first
unfoldable pub older_section : String → List ℕ
older_section s = 0 ∷ write_part (write_part older_hint_section ++ hex s)

unfoldable pub newer_section : String → List ℕ
newer_section s = 0 ∷ write_part (write_part hint_section ++ hex s)

abbrev pub apart_rows : {Offset : Type 0} → Offset → (older newer both cut : Judged (Option Hint)) → List (Row (List ℕ × FunctionIndex × Offset) (Judged (Option Hint)))
apart_rows at older newer both cut =
    (preamble, record { 0 = 2 }, at) demands accepted none ∷
    (preamble ++ older_section "01 02 00 01 00 05", record { 0 = 2 }, at) demands older ∷
    (preamble ++ newer_section "01 02 01 05 01 01", record { 0 = 2 }, at) demands newer ∷
    (preamble ++ (older_section "01 02 00 01 00 05" ++ newer_section "01 02 01 05 01 01"), record { 0 = 2 }, at) demands both ∷
    (preamble ++ (newer_section "01 02 01 05 01 01" ++ older_section "01 02 00 01 00 05"), record { 0 = 2 }, at) demands both ∷
    (preamble ++ older_section "01 02 01", record { 0 = 2 }, at) demands cut ∷
    (preamble ++ (older_section "01 02 01" ++ older_section ""), record { 0 = 2 }, at) demands refused 7 25 ∷
    []

-- "A canonical rewriting, also sorted by function and offset, shadowed hints dropped, one entry per function", into an output as long as the payload
abbrev pub lent : String → List ℕ × List ℕ
lent s = (hex s, hex s)

abbrev pub written_rows : List (Row (List ℕ × List ℕ) (Judged (List ℕ)))
written_rows =
    lent "02 07 00 01 01 05 01 00 01 00 02" demands accepted (hex "02 01 00 01 00 02 07 00 01 01 05") ∷
    lent "01 00 00 02 01 05 01 05" demands accepted (hex "01 00 00 01 01 05") ∷
    lent "01 00 00 02 01 05 00 05" demands accepted (hex "01 00 00 01 01 05") ∷
    lent "02 00 00 01 00 05 00 00 01 01 05" demands accepted (hex "01 00 00 01 00 05") ∷
    lent "02 03 00 01 00 09 03 00 02 01 02 01 09" demands accepted (hex "01 03 00 02 01 02 00 09") ∷
    lent "02 00 00 00 07 00 00" demands accepted (hex "00") ∷
    lent "81 00 80 00 00 81 00 81 00 85 00" demands accepted (hex "01 00 00 01 01 05") ∷
    (hex "01 00 00 02 01 05 01 05", hex "AA AA AA AA AA") demands refused 13 6 ∷
    []

-- "every pair once, by function and offset, with the hint that answers", into three lists, which keep what stands behind the rows: in no order, and in order; a pair twice, and a list with room for it once; a function without hints; no hints; each of the lists too short, and a refusal before that
abbrev pub Lent : Type 0
Lent = List ℕ × List (List ℕ)

abbrev pub Said : Type 0
Said = Judged (Option Place) × List (List ℕ)

abbrev pub rows_of : ℕ → Judged (Option Place)
rows_of n = accepted (some (record { offset = record { 0 = 0 }; length = n }))

abbrev pub three : (functions offsets likely : List ℕ) → List (List ℕ)
three functions offsets likely = functions ∷ offsets ∷ likely ∷ []

abbrev pub listed_rows : List (Row Lent Said)
listed_rows =
    (hex "02 07 00 01 01 05 01 00 01 00 02", three (9 ∷ 9 ∷ 9 ∷ []) (9 ∷ 9 ∷ []) (9 ∷ 9 ∷ 8 ∷ [])) demands (rows_of 2, three (1 ∷ 7 ∷ 9 ∷ []) (2 ∷ 5 ∷ []) (0 ∷ 1 ∷ 8 ∷ [])) ∷
    (hex "02 01 00 01 00 02 07 00 01 01 05", three (9 ∷ 9 ∷ 9 ∷ []) (9 ∷ 9 ∷ []) (9 ∷ 9 ∷ 8 ∷ [])) demands (rows_of 2, three (1 ∷ 7 ∷ 9 ∷ []) (2 ∷ 5 ∷ []) (0 ∷ 1 ∷ 8 ∷ [])) ∷
    (hex "02 03 00 01 00 09 03 00 02 01 02 01 09", three (7 ∷ 7 ∷ []) (7 ∷ 7 ∷ []) (7 ∷ 7 ∷ [])) demands (rows_of 2, three (3 ∷ 3 ∷ []) (2 ∷ 9 ∷ []) (1 ∷ 0 ∷ [])) ∷
    (hex "01 00 00 02 01 05 00 05", three (7 ∷ []) (7 ∷ []) (7 ∷ [])) demands (rows_of 1, three (0 ∷ []) (5 ∷ []) (1 ∷ [])) ∷
    (hex "02 00 00 00 07 00 01 80 00 85 00", three (9 ∷ []) (9 ∷ []) (9 ∷ [])) demands (rows_of 1, three (7 ∷ []) (5 ∷ []) (0 ∷ [])) ∷
    (hex "00", three [] (9 ∷ []) []) demands (rows_of 0, three [] (9 ∷ []) []) ∷
    (hex "01 00 00 02 01 06 01 05", three (9 ∷ []) (9 ∷ 9 ∷ []) (9 ∷ 9 ∷ [])) demands (refused 13 2, three (9 ∷ []) (9 ∷ 9 ∷ []) (9 ∷ 9 ∷ [])) ∷
    (hex "01 00 00 02 01 06 01 05", three (9 ∷ 9 ∷ []) (9 ∷ []) (9 ∷ 9 ∷ [])) demands (refused 13 2, three (9 ∷ 9 ∷ []) (9 ∷ []) (9 ∷ 9 ∷ [])) ∷
    (hex "01 00 00 02 01 05 01 06", three (9 ∷ 9 ∷ []) (9 ∷ 9 ∷ []) (9 ∷ [])) demands (refused 13 2, three (9 ∷ 9 ∷ []) (9 ∷ 9 ∷ []) (9 ∷ [])) ∷
    (hex "01 00 00 01 02", three [] [] []) demands (refused 12 4, three [] [] []) ∷
    []

abbrev pub listing : Lent → Said
listing x = (map_judged (map_some rows_found) (fitting_rows x.1 (older_rows x.0)), lists_after older_columns (fitting_rows x.1 (older_rows x.0)) x.1)
