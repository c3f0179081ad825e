-- What the text reader promises of the bytes that it looks at: ASCII in words and blocks, characters one by one.
use Rattle.std.specs.Prelude.{ℕ, ◌+◌, ◌*◌, ◌%◌, ◌≤◌, ◌<◌, Bool, true, false, ◌&&◌, List, ◌≡◌, length, get_or}
use Rattle.std.proofs.Math.Seq.{slice}
use Rattle.format.specs.Text.{least_of_two, least_of_three, least_of_four, is_allowed, is_later, with_later, utf8}

-- a number that holds the four bytes from `i` on, the first of them lowest
pub record Holds (s : List ℕ) (i word : ℕ) : Type 0 where
  pub first : get_or s i 0 < 256
  pub second : get_or s (i + 1) 0 < 256
  pub third : get_or s (i + 2) 0 < 256
  pub fourth : get_or s (i + 3) 0 < 256
  pub all_four : word ≡ get_or s i 0 + get_or s (i + 1) 0 * 256 + (get_or s (i + 2) 0 + get_or s (i + 3) 0 * 256) * 65536

-- told so, the `n` bytes from `i` on are ASCII
pub record SeesAscii (s : List ℕ) (i n : ℕ) (told : Bool) : Type 0 where
  pub all_ascii : told ≡ true → (k : ℕ) → i ≤ k → k < i + n → get_or s k 0 < 0x80

-- whether the bytes from `from` to `end` are text is whether those from `next` on are
pub record Passes (s : List ℕ) (from end next : ℕ) : Type 0 where
  pub forward : from ≤ next
  pub within : next ≤ end
  pub same : utf8 (slice from end s) ≡ utf8 (slice next end s)

-- at `i`, before `end`, stands a byte from `low` on and below `high`
pub record Begins (s : List ℕ) (i end low high : ℕ) : Type 0 where
  pub before : i < end
  pub lent : end ≤ length s
  pub at_least : low ≤ get_or s i 0
  pub below : get_or s i 0 < high

-- whether the bytes of a form complete a code point that is allowed: `completes` in `format`, by the bytes one by one
abbrev pub two_complete : (first b : ℕ) → Bool
two_complete first b = is_later b && is_allowed least_of_two (with_later (first % 32) b)

abbrev pub three_complete : (first b c : ℕ) → Bool
three_complete first b c = is_later b && (is_later c && is_allowed least_of_three (with_later (with_later (first % 16) b) c))

abbrev pub four_complete : (first b c d : ℕ) → Bool
four_complete first b c d = is_later b && (is_later c && (is_later d && is_allowed least_of_four (with_later (with_later (with_later (first % 8) b) c) d)))

-- at `i` stands a character of `n` bytes, before `end`; where none stands, n is 0 and what begins there is no text
pub record Stands (s : List ℕ) (i end n : ℕ) : Type 0 where
  pub within : i + n ≤ end
  pub none : n ≡ 0 → utf8 (slice i end s) ≡ false
  pub one : (n ≡ 0 → ⊥) → Passes s i end (i + n)
