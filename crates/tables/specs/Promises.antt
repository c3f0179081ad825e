-- THE PROMISES of the crate `tables`, each by the name of its function. They stand in the `ensures` of the public functions and nowhere else: what is shown of these names is shown of the functions. A promise relates what is lent to what comes back.
use Rattle.std.specs.Prelude.{ℕ, Bool, List, ◌≡◌}
use Rattle.format.specs.Numbers.{number}
use Rattle.format.specs.Parts.{sized}
use Rattle.format.specs.Tables.{lookup, table}
use Rattle.format.specs.Forms.{part_form, table_form}
use Rattle.format.specs.Returned.{Answer}
use Rattle.reading.specs.Cursors.{PartReads}
use Rattle.reading.specs.Standing.{Stands}
use Rattle.reading.specs.declared.Cursor.{Cursor}
use Rattle.reading.specs.Returned.{PartRead}
use Rattle.tables.specs.Judging.{name_map_read, Judges}
use Rattle.tables.specs.Finding.{within, answer_of, Finds, Skips}
use Rattle.tables.specs.Seeking.{reader_of, sought_within, Seeks}
use Rattle.tables.specs.Stepping.{behind_at, RowSteps, GroupSteps}
use Rattle.tables.specs.Telling.{is_filled, Tells}
use Rattle.tables.specs.Returned.{Held}
use Rattle.tables.specs.declared.Item.{Item}
use Rattle.tables.specs.Returned.{Seek}
use Rattle.tables.specs.declared.Wanted.{Wanted}
use Rattle.tables.specs.Returned.{Judged}
use Rattle.tables.specs.Returned.{GroupStep}
use Rattle.tables.specs.Returned.{RowStep}
use Rattle.tables.specs.declared.stepping.Rows.{Rows}
use Rattle.tables.specs.Returned.{Tidy}

-- tables
abbrev pub TablesValue : (c : Cursor) (s : List ℕ) (item : Item) → PartRead → Type 0
TablesValue c s item r = PartReads (reader_of item) s c r

abbrev pub TablesTables : (c : Cursor) (s : List ℕ) (item : Item) (wanted inner : Wanted) → Seek → Type 0
TablesTables c s item wanted inner r = Seeks (sought_within (reader_of item) wanted inner) s c r

-- tables::judging
abbrev pub TablesNameMap : (c : Cursor) (s : List ℕ) (nested : Bool) → Judged → Type 0
TablesNameMap c s nested r = Judges (name_map_read nested) s c r

-- tables::finding
abbrev pub TablesAnswerOf : (held : Held) → Answer → Type 0
TablesAnswerOf held r = r ≡ answer_of held

abbrev pub TablesFindRow : (c : Cursor) (s : List ℕ) (key : ℕ) → Held → Type 0
TablesFindRow c s key r = Finds (table sized) (lookup key) s c r

abbrev pub TablesBehindTable : (c : Cursor) (s : List ℕ) → Cursor → Type 0
TablesBehindTable c s r = Skips s c r

abbrev pub TablesFindGroup : (c : Cursor) (s : List ℕ) (key inner : ℕ) → Held → Type 0
TablesFindGroup c s key inner r = Finds (table (table sized)) (within key inner) s c r

-- tables::telling
abbrev pub TablesIsFilled : (read : Tidy) → Bool → Type 0
TablesIsFilled read r = r ≡ is_filled read

abbrev pub TablesTidyTable : (c : Cursor) (s : List ℕ) (item : Item) → Tidy → Type 0
TablesTidyTable c s item r = Tells (table (reader_of item)) (table_form part_form) s c r

abbrev pub TablesTidyTables : (c : Cursor) (s : List ℕ) (item : Item) → Tidy → Type 0
TablesTidyTables c s item r = Tells (table (table (reader_of item))) (table_form (table_form part_form)) s c r

-- tables::stepping
abbrev pub TablesRowsHere : (c : Cursor) (s : List ℕ) → Rows → Type 0
TablesRowsHere c s r = Stands number s c r.more r.next

abbrev pub TablesBehind : (left : Rows) (next : Cursor) → Rows → Type 0
TablesBehind left next r = r ≡ behind_at left next

abbrev pub TablesRowStep : (left : Rows) (s : List ℕ) → RowStep → Type 0
TablesRowStep left s r = RowSteps s left r

abbrev pub TablesGroupStep : (left : Rows) (s : List ℕ) → GroupStep → Type 0
TablesGroupStep left s r = GroupSteps s left r
