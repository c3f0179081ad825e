-- An index of one, two or three bytes, with its width.
use Prim.Native.Nat.{ℕ, ◌+◌, ◌*◌, ◌%◌, ◌≤◌, ◌<◌}
use mathlib.Core.List.{List}
use mathlib.Core.Path.{◌≡◌, refl, sym, ap}
use native.Mathlib.Omega.{arith}
use borrow.Author.Rules.{rules}
use lib.ListN.{length, get_or}
use Rattle.format.specs.Numbers.{number}
use Rattle.reading.specs.Standing.{Stands, Known}
use Rattle.reading.specs.declared.Cursor.{Cursor}
use Rattle.reading.proofs.AgainSteps.{Going, first_lent, going_first, next_lent, going_on, number_stands}
use Rattle.markers.specs.Passing.{Wide, IndexHere}

module _ {s : List ℕ} {c : Cursor} where
  -- read by the loop
  pub index_is : {v width : ℕ} {d : Cursor} → Stands number s c v d → Wide width v → IndexHere s c (record { value = v; width = width })
  index_is i w = record { next = _; stands = i; wide = w }

  module _ (k : Known number s c) where
    one : Going s c 0 1 c.at (get_or s c.at 0)
    one = going_first k refl

    pub index_of_one : {v : ℕ} → get_or s c.at 0 < 128 → v ≡ get_or s c.at 0 → IndexHere s c (record { value = v; width = 0 })
    index_of_one {v} h e =
        let value : 0 + 1 * get_or s c.at 0 ≡ v = omega (arith, e) in
        index_is (rw value at (number_stands one h)) (λ p. absurd (omega arith))

    -- a byte from 128 on says that there is another
    module _ (h : 128 ≤ get_or s c.at 0) where
      pub second_lent : c.at + 1 < length s
      second_lent = next_lent one h

      two : Going s c (0 + 1 * (get_or s c.at 0 % 128)) (1 * 128) (c.at + 1) (get_or s (c.at + 1) 0)
      two = going_on one h refl

      -- a last byte above 0 makes it wide
      pub index_of_two : {v second : ℕ} → get_or s (c.at + 1) 0 < 128 → 0 < get_or s (c.at + 1) 0 → second ≡ get_or s (c.at + 1) 0 → v ≡ get_or s c.at 0 % 128 + 128 * second → IndexHere s c (record { value = v; width = 1 })
      index_of_two {v} l some_there e f =
          let value : 0 + 1 * (get_or s c.at 0 % 128) + 1 * 128 * get_or s (c.at + 1) 0 ≡ v = omega (arith, e, f) in
          index_is (rw value at (number_stands two l)) (λ p. omega (arith, some_there, e, f))

      module _ (g : 128 ≤ get_or s (c.at + 1) 0) where
        next_at : c.at + 1 + 1 ≡ c.at + 2
        next_at = omega arith

        pub third_lent : c.at + 2 < length s
        third_lent = rw next_at at (next_lent two g)

        pub index_of_three : {v second third : ℕ} → get_or s (c.at + 2) 0 < 128 → 0 < get_or s (c.at + 2) 0 → third ≡ get_or s (c.at + 2) 0 → second ≡ get_or s (c.at + 1) 0 % 128 + 128 * third → v ≡ get_or s c.at 0 % 128 + 128 * second → IndexHere s c (record { value = v; width = 2 })
        index_of_three {v} l some_there e f q =
            let value : 0 + 1 * (get_or s c.at 0 % 128) + 1 * 128 * (get_or s (c.at + 1) 0 % 128) + 1 * 128 * 128 * get_or s (c.at + 2) 0 ≡ v = omega (arith, e, f, q) in
            index_is (rw value at (number_stands (going_on two g (ap (λ i. get_or s i 0) (sym next_at))) l)) (λ p. omega (arith, some_there, e, f, q))

pub ruleset in_index = (first_lent, index_of_one, second_lent, index_of_two, third_lent, index_of_three, index_is, rules)
