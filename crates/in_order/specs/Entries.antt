-- What a pass over entries and their hints makes of each. Assumes nothing.
use Rattle.std.specs.Prelude.{ℕ, ◌+◌, Bool, false, cond, List, [], ◌∷◌, ◌++◌, eqb, leb, length}
use Rattle.format.specs.Numbers.{shortest}
use Rattle.format.specs.Older.{OlderHint}
use Rattle.format.specs.OlderInOrder.{hints_bytes, if_hints}

-- whether what rose so far does so with one more number
unfoldable pub still_rising : (rising : Bool) (least n : ℕ) → Bool
still_rising rising least n = cond rising (leb least n) false

-- one entry, which is left out without hints
unfoldable pub entry_of : ℕ → List OlderHint → List ℕ
entry_of function hints = if_hints hints (shortest function ++ (0 ∷ (shortest (length hints) ++ hints_bytes hints))) []

-- how long that is, by the entry's function, its count of hints and their length
unfoldable pub entry_length : (function count length_of_hints : ℕ) → ℕ
entry_length f n l = cond (eqb n 0) 0 (length (shortest f) + 1 + length (shortest n) + l)
