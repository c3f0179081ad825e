-- THE PROMISES of the crate `in_order`, each by the name of its function. They stand in the `ensures` of the public functions and nowhere else: what is shown of these names is shown of the functions. A promise relates what is lent to what comes back.
use Rattle.std.specs.Prelude.{ℕ, List}
use Rattle.copying.specs.Standing.{Puts}
use Rattle.copying.specs.declared.Put.{Put}
use Rattle.format.specs.Older.{times, older_entry}
use Rattle.format.specs.OlderInOrder.{entries_bytes}
use Rattle.reading.specs.declared.Cursor.{Cursor}
use Rattle.in_order.specs.Rows.{SurveysRows, PutsAll}
use Rattle.in_order.specs.Standing.{Surveys}
use Rattle.in_order.specs.declared.EntrySurvey.{EntrySurvey}
use Rattle.in_order.specs.declared.rows.RowSurvey.{RowSurvey}

-- in_order
abbrev pub InOrderSurvey : (c : Cursor) (s : List ℕ) (n : ℕ) → EntrySurvey → Type 0
InOrderSurvey c s n r = Surveys n s c r

abbrev pub InOrderPutEntries : (old : List ℕ) (at : ℕ) (c : Cursor) (s : List ℕ) (n : ℕ) → List ℕ → Put → Type 0
InOrderPutEntries old at c s n new r = Puts (times older_entry n) entries_bytes s c old new at r

-- in_order::rows
abbrev pub InOrderSurveyRows : (c : Cursor) (s : List ℕ) (n : ℕ) → RowSurvey → Type 0
InOrderSurveyRows c s n r = SurveysRows n s c r

abbrev pub InOrderPutRows : (lists : List (List ℕ)) (c : Cursor) (s : List ℕ) (n : ℕ) → List (List ℕ) → Type 0
InOrderPutRows lists c s n lists' = PutsAll n s c lists lists'
