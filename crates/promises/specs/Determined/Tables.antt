-- Each promise of the crate `tables` determines what comes back, but for the one at the end.
use Rattle.std.specs.Prelude.{ℕ, List}
use Rattle.format.proofs.Determined.{Determines1, Determines2, Determines3, Determines4, Determines, equal_determined}
use Rattle.reading.proofs.Same.{part_same}
use Rattle.reading.specs.Cursors.{Inside}
use Rattle.reading.specs.declared.Cursor.{Cursor}
use Rattle.tables.proofs.Laws.{seeks_same}
use Rattle.tables.proofs.Same.{rows_here_same, row_step_same, group_step_same, finds_same, skips_same, tells_same, judges_same}
use Rattle.tables.specs.declared.Item.{Item}
use Rattle.tables.specs.declared.Wanted.{Wanted}
use Rattle.tables.specs.Promises.{TablesValue, TablesTables, TablesNameMap, TablesAnswerOf, TablesFindRow, TablesBehindTable, TablesFindGroup, TablesIsFilled, TablesTidyTable, TablesTidyTables, TablesRowsHere, TablesBehind, TablesRowStep, TablesGroupStep}

pub record Tables : Type 0 where
  -- tables
  tables_value : Determines3 TablesValue
  -- tables::judging
  tables_name_map : Determines3 TablesNameMap
  -- tables::finding
  tables_answer_of : Determines1 TablesAnswerOf
  tables_find_row : Determines3 TablesFindRow
  tables_behind_table : Determines2 TablesBehindTable
  tables_find_group : Determines4 TablesFindGroup
  -- tables::telling
  tables_is_filled : Determines1 TablesIsFilled
  tables_tidy_table : Determines3 TablesTidyTable
  tables_tidy_tables : Determines3 TablesTidyTables
  -- tables::stepping
  tables_rows_here : Determines2 TablesRowsHere
  tables_behind : Determines2 TablesBehind
  tables_row_step : Determines2 TablesRowStep
  tables_group_step : Determines2 TablesGroupStep

pub determined : Tables
determined =
    record {
      tables_value = λ c s item. part_same;
      tables_name_map = λ c s nested. judges_same;
      tables_answer_of = λ held. equal_determined _;
      tables_find_row = λ c s key. finds_same _ _;
      tables_behind_table = λ c s. skips_same;
      tables_find_group = λ c s key inner. finds_same _ _;
      tables_is_filled = λ read. equal_determined _;
      tables_tidy_table = λ c s item. tells_same;
      tables_tidy_tables = λ c s item. tells_same;
      tables_rows_here = λ c s. rows_here_same;
      tables_behind = λ left next. equal_determined _;
      tables_row_step = λ left s. row_step_same;
      tables_group_step = λ left s. group_step_same;
    }

-- THE EXCEPTION: determined where its `requires` holds

pub tables_determined : (c : Cursor) (s : List ℕ) (item : Item) (wanted inner : Wanted) → Inside s c → Determines (TablesTables c s item wanted inner)
tables_determined c s item wanted inner inside a b h h' = seeks_same h h' inside
