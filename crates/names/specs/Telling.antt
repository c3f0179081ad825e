-- What telling whether a payload is canonical finds, K10. Assumes nothing.
use Rattle.std.specs.Prelude.{ℕ, Bool, List, ◌≡◌}
use Rattle.format.specs.Names.{Kind, contents}
use Rattle.format.specs.Forms.{is_yes, told, content_form}
use Rattle.reading.specs.Cursors.{left}
use Rattle.reading.specs.declared.Cursor.{Cursor}

-- contents of a kind, over a part
pub record TellsContent (kind : Kind) (s : List ℕ) (part : Cursor) (r : Bool) : Type 0 where
  pub says : r ≡ is_yes (told content_form (left s part) (contents kind part.at (left s part)))
