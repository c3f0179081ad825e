-- The first row that is to come of a map, read ahead. Assumes nothing.
use Rattle.std.specs.Prelude.{ℕ, ◌<◌, List, ◌≡◌, Option, Some, None}
use Rattle.format.specs.Parts.{sized}
use Rattle.format.specs.Tables.{rows}
use Rattle.reading.specs.Standing.{Known}
use Rattle.tables.specs.Stepping.{RowSteps}
use Rattle.tables.specs.declared.stepping.Rows.{Rows}
use Rattle.tables.specs.Returned.{RowStep}
use Rattle.joining.specs.Sides.{Sides}
use Rattle.joining.specs.Steps.{RowNext}
use Rattle.joining.specs.declared.rows.Ahead.{Ahead}
use Rattle.joining.specs.declared.rows.NextRow.{NextRow}

-- rows that were accepted
abbrev pub KnownRows : List ℕ → Rows → Type 0
KnownRows s left = Known (rows sized left.more 0) s left.next

-- what was read ahead is what a step finds, in the bytes that the rows stand in
pub record ReadAhead (s : List ℕ) (a : Ahead) : Type 0 where
  pub steps : RowSteps s a.rows a.step

pub record Reads (s : List ℕ) (left : Rows) (a : Ahead) : Type 0 where
  pub same_rows : a.rows ≡ left
  pub ahead : ReadAhead s a

-- from one row to the next: the rows are the same, or fewer
pub record Goes (s : List ℕ) (before : Ahead) (left : Rows) : Type 0 where
  pub ahead : ReadAhead s before
  pub known : KnownRows s left
  pub same : left.more ≡ before.rows.more → left ≡ before.rows

-- a row that was read ahead is to come
abbrev pub ReadyStep : Rows → RowStep → Type 0
ReadyStep left None = Unit {0}
ReadyStep left (Some (k, part, next)) = 0 < left.more

pub record Ready (a : Ahead) : Type 0 where
  pub some_left : ReadyStep a.rows a.step

-- What comes next of two maps, whatever bytes their rows were read in
pub record NextOf (left right : Ahead) (r : Option NextRow) : Type 0 where
  pub next : (s o : List ℕ) → ReadAhead s left → ReadAhead o right → Sides sized s left.rows o right.rows → RowNext s left.rows o right.rows r
