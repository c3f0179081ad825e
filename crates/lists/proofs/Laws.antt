-- What the lists' next element adds to a sum, to an order check, to a text check and to the rows. Assumes nothing.
use Prim.Native.Nat.{ℕ, suc, ◌+◌, ◌≤◌, ◌<◌}
use mathlib.Core.Bool.{cond}
use mathlib.Core.List.{List, [], ◌∷◌, ◌++◌}
use mathlib.Core.Option.{none, some}
use mathlib.Core.Path.{◌≡◌}
use native.Mathlib.Numerals.{add-one}
use native.Mathlib.Omega.{arith}
use lib.Dec.{leb}
use lib.ListN.{length, take, drop, get_or, drop_of_length-le}
use lib.Seq.{drop-cons, drop-drop}
use Rattle.format.specs.Canonical.{write_part, write_rows}
use Rattle.format.specs.Numbers.{shortest}
use Rattle.format.specs.Text.{utf8}
use Rattle.format.specs.Lists.{sum, listed, unsorted_at, bad_text_at}
use Rattle.lists.specs.Steps.{row_length, rows_length, rows_of}

module _ (xs : List ℕ) (k : ℕ) where
  pub next_one : k < length xs → drop k xs ≡ get_or xs k 0 ∷ drop (k + 1) xs
  next_one h = rw add-one (drop-cons xs k 0 h)

  pub sum_next : k < length xs → sum (drop k xs) ≡ get_or xs k 0 + sum (drop (k + 1) xs)
  unfolding sum
  sum_next h = rw (next_one h, sum)

  pub sum_end : length xs ≤ k → sum (drop k xs) ≡ 0
  unfolding sum
  sum_end h = rw (drop_of_length-le xs h)

  pub unsorted_next : (least : ℕ) → k < length xs → unsorted_at k least (drop k xs) ≡ cond (leb least (get_or xs k 0)) (unsorted_at (k + 1) (suc (get_or xs k 0)) (drop (k + 1) xs)) (some k)
  unfolding unsorted_at
  unsorted_next least h = rw (next_one h, unsorted_at, add-one)

  pub unsorted_end : (least : ℕ) → length xs ≤ k → unsorted_at k least (drop k xs) ≡ none
  unfolding unsorted_at
  unsorted_end least h = rw (drop_of_length-le xs h)

  pub bad_text_next : (text : List ℕ) (start : ℕ) → k < length xs → bad_text_at start (drop k xs) (drop start text) ≡ cond (utf8 (take (get_or xs k 0) (drop start text))) (bad_text_at (start + get_or xs k 0) (drop (k + 1) xs) (drop (start + get_or xs k 0) text)) (some start)
  unfolding bad_text_at
  bad_text_next text start h = rw (next_one h, bad_text_at, drop-drop (get_or xs k 0) start text)

  pub bad_text_end : (text : List ℕ) (start : ℕ) → length xs ≤ k → bad_text_at start (drop k xs) (drop start text) ≡ none
  unfolding bad_text_at
  bad_text_end text start h = rw (drop_of_length-le xs h)

module _ (is ns : List ℕ) (k : ℕ) where
  pub rows_next : k < length is → length is ≡ length ns → rows_length (drop k is) (drop k ns) ≡ row_length (get_or is k 0) (get_or ns k 0) + rows_length (drop (k + 1) is) (drop (k + 1) ns)
  unfolding rows_length
  rows_next h e = rw (next_one is k h, next_one ns k (omega arith), rows_length)

  pub rows_end : length is ≤ k → rows_length (drop k is) (drop k ns) ≡ 0
  unfolding rows_length
  rows_end h = rw (drop_of_length-le is h)

  pub rows_of_next : (text : List ℕ) (start : ℕ) → k < length is → length is ≡ length ns → rows_of (drop k is) (drop k ns) (drop start text) ≡ shortest (get_or is k 0) ++ (write_part (take (get_or ns k 0) (drop start text)) ++ rows_of (drop (k + 1) is) (drop (k + 1) ns) (drop (start + get_or ns k 0) text))
  unfolding rows_of listed write_rows
  rows_of_next text start h e = rw (next_one is k h, next_one ns k (omega arith), listed, write_rows, drop-drop (get_or ns k 0) start text)

  pub rows_of_end : (text : List ℕ) → length is ≤ k → rows_of (drop k is) (drop k ns) text ≡ []
  unfolding rows_of listed write_rows
  rows_of_end text h = rw (drop_of_length-le is h)
