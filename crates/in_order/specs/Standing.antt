-- What a survey of entries that stand at a cursor finds. Assumes nothing.
use Rattle.std.specs.Prelude.{ℕ, List, ◌≡◌, length}
use Rattle.format.specs.Older.{OlderHint, OlderEntry, times, older_hint, older_entry}
use Rattle.format.specs.OlderInOrder.{rising_hints, hints_bytes, rising_entries, kept_entries, entries_bytes}
use Rattle.reading.specs.Standing.{Stands}
use Rattle.reading.specs.declared.Cursor.{Cursor}
use Rattle.in_order.specs.declared.HintSurvey.{HintSurvey}
use Rattle.in_order.specs.declared.EntrySurvey.{EntrySurvey}

-- so many hints: whether they rise, and how long they are in their fewest bytes
pub record SurveysHints (n : ℕ) (s : List ℕ) (c : Cursor) (r : HintSurvey) : Type 0 where
  pub value : List OlderHint
  pub stands : Stands (times older_hint n) s c value r.next
  pub order : r.rising ≡ rising_hints 0 value
  pub long : r.length ≡ length (hints_bytes value)

-- so many entries: whether they and their hints rise, how many have hints, and how long these are in their fewest bytes
pub record Surveys (n : ℕ) (s : List ℕ) (c : Cursor) (r : EntrySurvey) : Type 0 where
  pub value : List OlderEntry
  pub stands : Stands (times older_entry n) s c value r.next
  pub order : r.rising ≡ rising_entries 0 value
  pub many : r.kept ≡ kept_entries value
  pub long : r.length ≡ length (entries_bytes value)
