-- THE PROMISES of the crate `copying`, each by the name of its function. They stand in the `ensures` of the public functions and nowhere else: what is shown of these names is shown of the functions. A promise relates what is lent to what comes back.
use Rattle.std.specs.Prelude.{ℕ, ◌+◌, List, ◌≡◌, length}
use Rattle.format.specs.Canonical.{write_part}
use Rattle.format.specs.Numbers.{shortest}
use Rattle.format.specs.Parts.{sized}
use Rattle.format.specs.Tables.{rows, table}
use Rattle.copying.specs.Bytes.{rows_of, groups_of}
use Rattle.copying.specs.Standing.{Measures, MeasuresGroups, Puts}
use Rattle.copying.specs.declared.Groups.{Groups}
use Rattle.copying.specs.declared.Measured.{Measured}
use Rattle.copying.specs.declared.Put.{Put}
use Rattle.reading.specs.Cursors.{left}
use Rattle.reading.specs.declared.Cursor.{Cursor}
use Rattle.writing.specs.Wrote.{Wrote}

-- copying
abbrev pub CopyingSizedLength : (size : ℕ) → ℕ → Type 0
CopyingSizedLength size r = r ≡ length (shortest size) + size

abbrev pub CopyingRowsLength : (c : Cursor) (s : List ℕ) (n : ℕ) → Measured → Type 0
CopyingRowsLength c s n r = Measures (rows sized n 0) rows_of s c r

abbrev pub CopyingGroupsLength : (c : Cursor) (s : List ℕ) (n : ℕ) → Groups → Type 0
CopyingGroupsLength c s n r = MeasuresGroups n s c r

abbrev pub CopyingPutPart : (old : List ℕ) (at : ℕ) (part : Cursor) (s : List ℕ) → List ℕ → ℕ → Type 0
CopyingPutPart old at part s new r = Wrote old new at r (write_part (left s part))

abbrev pub CopyingPutRows : (old : List ℕ) (at : ℕ) (c : Cursor) (s : List ℕ) (n : ℕ) → List ℕ → Put → Type 0
CopyingPutRows old at c s n new r = Puts (rows sized n 0) rows_of s c old new at r

abbrev pub CopyingPutGroups : (old : List ℕ) (at : ℕ) (c : Cursor) (s : List ℕ) (n : ℕ) → List ℕ → Put → Type 0
CopyingPutGroups old at c s n new r = Puts (rows (table sized) n 0) groups_of s c old new at r
