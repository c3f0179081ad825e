-- What a write into a lent output leaves: the bytes stand at `at`, `next` is where they end, and nothing else changed. Assumes nothing.
use Rattle.std.specs.Prelude.{ℕ, ◌+◌, ◌≤◌, List, ◌++◌, ◌≡◌, length, take, drop}

pub record Wrote (old new : List ℕ) (at next : ℕ) (bytes : List ℕ) : Type 0 where
  pub next_is : next ≡ at + length bytes
  pub fits : next ≤ length old
  pub written : new ≡ take at old ++ (bytes ++ drop next old)
