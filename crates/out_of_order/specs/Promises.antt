-- THE PROMISES of the crate `out_of_order`, each by the name of its function. They stand in the `ensures` of the public functions and nowhere else: what is shown of these names is shown of the functions. A promise relates what is lent to what comes back.
use Rattle.std.specs.Prelude.{ℕ, List, ◌≡◌, length}
use Rattle.format.specs.Entries.{older_columns}
use Rattle.format.specs.Older.{sorted_from, write_older}
use Rattle.format.specs.Tables.{nil}
use Rattle.reading.specs.declared.Cursor.{Cursor}
use Rattle.writing.specs.Columns.{Columns}
use Rattle.writing.specs.Wrote.{Wrote}
use Rattle.out_of_order.specs.Gathering.{entries_here, falling_here}
use Rattle.out_of_order.specs.Rows.{rows_here}
use Rattle.out_of_order.specs.Tally.{no_tally, tallied, totalled}

-- out_of_order
-- what the window has before is of no matter
abbrev pub OutOfOrderMeasure : (keys orders : List ℕ) (c : Cursor) (s : List ℕ) (n : ℕ) → ℕ → Type 0
OutOfOrderMeasure keys orders c s n r = r ≡ totalled (tallied no_tally (falling_here n s c))

abbrev pub OutOfOrderPut : (old : List ℕ) (end : ℕ) (c : Cursor) (s : List ℕ) (n : ℕ) → List ℕ → Type 0
OutOfOrderPut old end c s n new = Wrote old new 0 end (write_older (sorted_from nil (entries_here n s c)))

-- out_of_order::rows
abbrev pub OutOfOrderCountRows : (keys orders : List ℕ) (c : Cursor) (s : List ℕ) (n : ℕ) → ℕ → Type 0
OutOfOrderCountRows keys orders c s n r = r ≡ length (rows_here n s c)

abbrev pub OutOfOrderPutRows : (lists : List (List ℕ)) (end : ℕ) (c : Cursor) (s : List ℕ) (n : ℕ) → List (List ℕ) → Type 0
OutOfOrderPutRows lists end c s n lists' = Columns (rows_here n s c) 0 end older_columns lists lists'
