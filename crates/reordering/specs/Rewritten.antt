-- What is written of hints of the older edition that stand at a cursor. Assumes nothing.
use Rattle.std.specs.Prelude.{ℕ, ◌+◌, ◌^◌, ◌<◌, Bool, true, List, ◌≡◌, length}
use Rattle.format.specs.Numbers.{shortest}
use Rattle.format.specs.Older.{OlderEntry, times, vector, older_entry, judge_older, sorted_from, write_older, not_too_long}
use Rattle.format.specs.Outputs.{Writes}
use Rattle.format.specs.Reading.{Accepted}
use Rattle.format.specs.Tables.{nil}
use Rattle.format.specs.Telling.{older_is_canonical}
use Rattle.format.specs.Returned.{Written}
use Rattle.in_order.specs.Standing.{Surveys}
use Rattle.in_order.specs.declared.EntrySurvey.{EntrySurvey}
use Rattle.reading.specs.Cursors.{over_all}
use Rattle.reading.specs.Standing.{Stands}
use Rattle.reading.specs.declared.Cursor.{Cursor}

-- entries that a survey found to be in order
pub record ReadyRising (n : ℕ) (s : List ℕ) (c : Cursor) (found : EntrySurvey) : Type 0 where
  pub surveyed : Surveys n s c found
  pub in_order : found.rising ≡ true
  pub fits : length (shortest found.kept) + found.length < 2 ^ 64

-- the entries that stand there are written
pub record RewritesEntries (n : ℕ) (s : List ℕ) (c : Cursor) (old new : List ℕ) (r : Written) : Type 0 where
  pub value : List OlderEntry
  pub next : Cursor
  pub stands : Stands (times older_entry n) s c value next
  pub writes : Writes (not_too_long (write_older (sorted_from nil value))) old new r

pub record RewritesOlder (s : List ℕ) (c : Cursor) (old new : List ℕ) (r : Written) : Type 0 where
  pub value : List OlderEntry
  pub next : Cursor
  pub stands : Stands (vector older_entry) s c value next
  pub writes : Writes (not_too_long (write_older (sorted_from nil value))) old new r

-- whether a payload, which was accepted, is what is written of it
pub record TellsOlder (s : List ℕ) (c : Cursor) (r : Bool) : Type 0 where
  pub tells : c ≡ over_all s → Accepted (judge_older 0) s → r ≡ older_is_canonical s
