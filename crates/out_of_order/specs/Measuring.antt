-- What the codes of entries come to. Assumes nothing.
use Rattle.std.specs.Prelude.{ℕ, List, ◌≡◌}
use Rattle.reading.specs.declared.Cursor.{Cursor}
use Rattle.out_of_order.specs.Gathering.{falling_here}
use Rattle.out_of_order.specs.Tally.{no_tally, tallied, Fair}
use Rattle.out_of_order.specs.declared.tally.Tally.{Tally}

pub record Measures (n : ℕ) (s : List ℕ) (c : Cursor) (r : Tally) : Type 0 where
  pub counted : r ≡ tallied no_tally (falling_here n s c)
  pub fair : Fair r
