-- What is listed of what stands somewhere and was accepted. Assumes nothing.
use Rattle.std.specs.Prelude.{ℕ, List, [], ◌∷◌, ◌≡◌}
use Rattle.std.proofs.Math.Option.{some}
use Rattle.format.specs.Entries.{Listed, content_rows, place_columns, Lists}
use Rattle.format.specs.Names.{Kind, Content, contents}
use Rattle.format.specs.Parts.{Part, sized}
use Rattle.format.specs.Tables.{Table, table}
use Rattle.format.specs.Reading.{Reader, accepted, judge}
use Rattle.format.specs.Returned.{Answer}
use Rattle.reading.specs.Cursors.{Inside, left}
use Rattle.reading.specs.Standing.{Stands}
use Rattle.reading.specs.declared.Cursor.{Cursor}
use Rattle.entries.specs.Putting.{Every}

-- the one row of a name without an index
abbrev pub one_row : Part → List (Listed Part)
one_row x = record { first = 0; second = 0; held = x } ∷ []

-- a table of tables stands there, all of whose parts are such
pub record KnownAll (P : Part → Type 0) (s : List ℕ) (c : Cursor) : Type 0 where
  pub value : Table (Table Part)
  pub next : Cursor
  pub stands : Stands (table (table sized)) s c value next
  pub every : Every (Every P) value

-- the rows of what is read there
pub record ListsRows {A : Type 0} (read : Reader A) (rows_of : A → List (Listed Part)) (columns : List (Listed Part → ℕ)) (s : List ℕ) (c : Cursor) (lists lists' : List (List ℕ)) (r : Answer) : Type 0 where
  pub value : A
  pub next : Cursor
  pub stands : Stands read s c value next
  pub its_lists : Lists columns (accepted (some (rows_of value))) lists lists' r

-- a subsection's contents were accepted, and are listed
pub record KnownContents (kind : Kind) (s : List ℕ) (part : Cursor) : Type 0 where
  pub value : Content Part
  pub inside : Inside s part
  pub judged : judge (contents kind part.at (left s part)) ≡ accepted value

pub record ListsContents (kind : Kind) (s : List ℕ) (part : Cursor) (lists lists' : List (List ℕ)) (r : Answer) : Type 0 where
  pub value : Content Part
  pub judged : judge (contents kind part.at (left s part)) ≡ accepted value
  pub its_lists : Lists place_columns (accepted (content_rows value)) lists lists' r
