-- An output that is long enough, whatever the two payloads come to as one. Assumes nothing.
use Rattle.std.specs.Prelude.{ℕ, ◌+◌, ◌≤◌, ◌<◌, Bool, true, ◌≡◌}
use Rattle.format.specs.Numbers.{limit32}

pub record Enough (first second room : ℕ) : Type 0 where
  pub small : first + second < limit32
  pub room_for_both : first + second ≤ room

pub record Roomy (first second room : ℕ) (r : Bool) : Type 0 where
  pub enough : r ≡ true → Enough first second room
