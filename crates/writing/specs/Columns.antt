-- Rows put into several lent lists, each list with its own column of them. Assumes nothing.
use Rattle.std.specs.Prelude.{ℕ, ◌≤◌, List, [], ◌∷◌, map, length}
use Rattle.format.specs.Entries.{Listed}
use Rattle.writing.specs.Wrote.{Wrote}

-- each of the lists has room for so many numbers
pub data Room (n : ℕ) : List (List ℕ) → Type 0 where
  no_list : Room n []
  another : {l : List ℕ} {ls : List (List ℕ)} → n ≤ length l → Room n ls → Room n (l ∷ ls)

-- in each list the column of the rows stands at `at`, `next` is where it ends, and nothing else changed
pub data Columns {X : Type 0} (es : List (Listed X)) (at next : ℕ) : (columns : List (Listed X → ℕ)) (lists lists' : List (List ℕ)) → Type 0 where
  no_column : Columns es at next [] [] []
  column : {shows : Listed X → ℕ} {columns : List (Listed X → ℕ)} {l l' : List ℕ} {ls ls' : List (List ℕ)} → Wrote l l' at next (map shows es) → Columns es at next columns ls ls' → Columns es at next (shows ∷ columns) (l ∷ ls) (l' ∷ ls')
