-- K6: wrong checks of hints on branches: one that does not count imported functions, or gives an imported one a body; one that takes br for br_if, or counts offsets from the first instruction; one that reads br_table without its default, or a constant as unsigned; one that reads the instruction at the place, or locals only up to it, or takes what it cannot read before it for another place; one that looks for the bodies of all functions first, or for that of a function before the hints of an earlier one are judged; one that judges hints before the import list or the list of bodies, or reads these without a hint section. Ruled out by a table of modules, each with what every result must say that meets the promise.
use Rattle.std.specs.Prelude.{ℕ, List, [], ◌∷◌, ◌++◌}
use Prim.Native.String.{String}
use Rattle.format.specs.Examples.{hex}
use Rattle.format.specs.Reading.{Judged, accepted, refused}
use Rattle.format.specs.Bytes.{ascii}
use Rattle.format.specs.Walk.{preamble}
use Rattle.format.specs.Canonical.{write_part}
use Rattle.branches.specs.Imports.{imports}
use Rattle.promises.specs.RuledOut.{Row, ◌demands◌}

abbrev pub section' : ℕ → String → List ℕ
section' id contents = id ∷ write_part (hex contents)

abbrev pub the_hints : String → List ℕ
the_hints payload = 0 ∷ write_part (write_part (ascii "metadata.code.branch_hint") ++ hex payload)

-- hints and bodies, the payload at 36; and imports before them, the list at 10
abbrev pub branching : (hints code : String) → List ℕ
branching hints code = preamble ++ the_hints hints ++ section' 10 code

abbrev pub importing : (imports hints code : String) → List ℕ
importing imports hints code = preamble ++ section' 2 imports ++ the_hints hints ++ section' 10 code

-- two imports are a function and a global; br_if behind br; behind two groups of locals; behind br_table; behind a constant; behind and at an opcode that version 1.0 lacks; behind a constant that runs past the body's end; in locals that cannot be read; an if that is the body's last byte; two functions with hints, of which the second has no body; faults in both lists
abbrev pub module_rows : List (Row (List ℕ) (Judged (Unit {0})))
module_rows =
    importing "02 00 00 00 00 00 00 03 7F 00" "01 01 01 01 01 00" "01 04 00 0D 00 0B" demands accepted tt ∷
    importing "02 00 00 00 00 00 00 03 7F 00" "01 00 01 01 01 00" "01 04 00 0D 00 0B" demands refused 19 49 ∷
    branching "01 00 01 03 01 00" "01 06 00 0C 00 0D 00 0B" demands accepted tt ∷
    branching "01 00 01 01 01 00" "01 06 00 0C 00 0D 00 0B" demands refused 21 39 ∷
    branching "01 00 01 05 01 00" "01 08 02 01 7F 01 7E 0D 00 0B" demands accepted tt ∷
    branching "01 00 01 00 01 00" "01 08 02 01 7F 01 7E 0D 00 0B" demands refused 21 39 ∷
    branching "01 00 01 04 01 00" "01 07 00 0E 00 0D 0D 00 0B" demands accepted tt ∷
    branching "01 00 01 03 01 00" "01 07 00 0E 00 0D 0D 00 0B" demands refused 21 39 ∷
    branching "01 00 01 07 01 00" "01 0A 00 41 FF FF FF FF 07 0D 00 0B" demands accepted tt ∷
    branching "01 00 01 07 01 00" "01 0A 00 41 FF FF FF FF 0F 0D 00 0B" demands refused 20 39 ∷
    branching "01 00 01 02 01 00" "01 05 00 C0 0D 00 0B" demands refused 20 39 ∷
    branching "01 00 01 01 01 00" "01 05 00 C0 0D 00 0B" demands refused 21 39 ∷
    branching "01 00 01 03 01 00" "01 04 00 43 00 0D" demands refused 20 39 ∷
    branching "01 00 01 00 01 00" "01 04 01 01 7B 0B" demands refused 20 39 ∷
    branching "01 00 01 01 01 00" "01 02 00 04" demands accepted tt ∷
    branching "02 00 01 02 01 00 09 01 00 01 00" "01 04 00 0D 00 0B" demands refused 21 39 ∷
    branching "02 00 01 01 01 00 09 01 00 01 00" "01 04 00 0D 00 0B" demands refused 19 42 ∷
    importing "01 00 00 04 00" "01 09 01 00 01 00" "01" demands refused 29 13 ∷
    branching "01 09 01 00 01 00" "01" demands refused 2 45 ∷
    (preamble ++ section' 2 "01 00 00 04 00" ++ section' 10 "01") demands accepted tt ∷
    []
