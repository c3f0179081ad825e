-- The bytes of an answer, and where in memory they begin. Assumes nothing.
use Rattle.std.specs.Prelude.{ℕ, ◌+◌, Bool, cond, List, [], ◌≡◌, leb, length, take, drop, Ok, Err, Some, None}
use Rattle.format.specs.Returned.{Answer}
use Rattle.format.specs.declared.Place.{Place}

-- A place in any bytes: what does not lie in them is empty, and begins at 0
abbrev pub lies_in : List ℕ → Place → Bool
lies_in s p = leb (p.offset.0 + p.length) (length s)

unfoldable pub taken_of : List ℕ → Answer → List ℕ
taken_of s (Ok None) = []
taken_of s (Ok (Some p)) = cond (lies_in s p) (take p.length (drop p.offset.0 s)) []
taken_of s (Err r) = []

unfoldable pub taken_from : List ℕ → Answer → ℕ
taken_from s (Ok None) = 0
taken_from s (Ok (Some p)) = cond (lies_in s p) p.offset.0 0
taken_from s (Err r) = 0

-- bytes and where they begin, taken of what was lent, which begins at `at`
pub record Takes (s : List ℕ) (at : ℕ × ℕ) (a : Answer) (bytes : List ℕ) (begins : ℕ × ℕ) : Type 0 where
  pub bytes_are : bytes ≡ taken_of s a
  pub begins_there : begins ≡ (at.0, taken_from s a + at.1)
