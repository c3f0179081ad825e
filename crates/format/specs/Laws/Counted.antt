-- A loop that goes so many times, as `for _ in 0..n`: what holds of the turns to come.
use Rattle.std.specs.Prelude.{ℕ, ◌+◌, ◌≡◌}

-- P of the turns that are left, once so many of n were gone
pub record Counted (P : ℕ → Type 0) (n gone : ℕ) : Type 0 where
  pub left : ℕ
  pub all : gone + left ≡ n
  pub holds : P left
