-- How long the contents are: the loop that sums rows, and that it stops only where they are too large.
use Rattle.std.specs.Prelude.{Ok, Err}
use Prim.Native.Nat.{ℕ, ◌+◌, ◌≤◌, ◌<◌}
use mathlib.Core.List.{List, [], ◌∷◌}
use mathlib.Core.Path.{◌≡◌}
use native.Mathlib.Omega.{arith}
use borrow.Author.Rules.{rules}
use borrow.Author.Tests.{lt-ltb, le-ltb}
use lib.ListN.{length, drop, get_or}
use Rattle.format.specs.Numbers.{shortest, limit32}
use Rattle.format.proofs.Laws.Numbers.{shortest_positive}
use Rattle.format.specs.declared.Reason.TheVariants.{SubsectionTooLarge}
use Rattle.lists.specs.Steps.{row_length, rows_length, contents_length, contents_as, size_check}
use Rattle.lists.proofs.Laws.{rows_next, rows_end}

-- a row has at least its two numbers
row_least : (i n : ℕ) → 2 ≤ row_length i n
row_least i n = omega (arith, shortest_positive i, shortest_positive n)

pub rows_least : (is ns : List ℕ) → length is ≡ length ns → length is ≤ rows_length is ns
unfolding rows_length
rows_least [] ns e = omega arith
rows_least (i ∷ is) [] e = absurd (omega arith)
rows_least (i ∷ is) (n ∷ ns) e = omega (arith, row_least i n, rows_least is ns (omega arith))

-- All rows: `total` counts those before `k`, and what comes before them
pub record Summed (is ns : List ℕ) (total k : ℕ) : Type 0 where
  pub small : total < limit32
  pub same : total + rows_length (drop k is) (drop k ns) ≡ contents_length is ns

module _ (is ns : List ℕ) where
  large : limit32 ≤ contents_length is ns → contents_as (Err (record { reason = SubsectionTooLarge; offset = record { 0 = 0 } })) ≡ size_check is ns
  unfolding size_check
  large h = rw (le-ltb (contents_length is ns) limit32 h)

pub too_many : (is ns : List ℕ) → length is ≡ length ns → limit32 ≤ length is → contents_as (Err (record { reason = SubsectionTooLarge; offset = record { 0 = 0 } })) ≡ size_check is ns
too_many is ns e h = large is ns (omega (arith, rows_least is ns e))

pub summed_none : {is ns : List ℕ} {total : ℕ} → total ≡ length (shortest (length is)) → total ≤ 5 → Summed is ns total 0
summed_none e h = record { small = omega arith; same = rw e }

module _ {is ns : List ℕ} {total k : ℕ} (t : Summed is ns total k) where
  module _ {row : ℕ} (h : k < length is) (l : length is ≡ length ns) (e : row ≡ row_length (get_or is k 0) (get_or ns k 0)) where
    pub summed_more : total + row < limit32 → Summed is ns (total + row) (k + 1)
    summed_more s = record { small = s; same = omega (arith, rows_next is ns k h l) }

    pub summed_large : limit32 ≤ total + row → contents_as (Err (record { reason = SubsectionTooLarge; offset = record { 0 = 0 } })) ≡ size_check is ns
    summed_large s = large is ns (omega (arith, rows_next is ns k h l))

  pub summed_ends : length is ≤ k → contents_as (Ok total) ≡ size_check is ns
  unfolding size_check
  summed_ends h =
      let all : total ≡ contents_length is ns = omega (arith, rows_end is ns k h) in
      rw (← all, lt-ltb total limit32 t.small)

pub ruleset sums = (too_many, summed_none, summed_more, summed_large, summed_ends, rules)
