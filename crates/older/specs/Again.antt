-- A hint that was accepted, as it is read again. Assumes nothing.
use Rattle.std.specs.Prelude.{ℕ, ◌≤◌, List}
use Rattle.format.specs.Older.{OlderHint, kind_numbered, older_hint}
use Rattle.reading.specs.Standing.{Stands}
use Rattle.reading.specs.declared.Cursor.{Cursor}
use Rattle.older.specs.declared.again.HintHere.{HintHere}

abbrev pub hint_of : HintHere → OlderHint
hint_of r = record { kind = kind_numbered r.kind; offset = r.offset }

pub record StandsHint (s : List ℕ) (c : Cursor) (r : HintHere) : Type 0 where
  pub stands : Stands older_hint s c (hint_of r) r.next
  pub known_kind_lem : r.kind ≤ 1
