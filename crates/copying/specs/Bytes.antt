-- What is written of rows that were read, each number in its fewest bytes and no group without entries. Assumes nothing.
use Rattle.std.specs.Prelude.{ℕ, ◌+◌, cond, List, [], ◌++◌, eqb, length}
use Rattle.format.specs.Numbers.{shortest}
use Rattle.format.specs.Parts.{Part}
use Rattle.format.specs.Tables.{Table, nil, row, map_table}
use Rattle.format.specs.Canonical.{write_part, write_rows, write_table, unless_empty, keep_rows, bare_items}

abbrev pub bare_rows : Table Part → Table (List ℕ)
bare_rows t = map_table (λ x. x.bytes) t

unfoldable pub rows_of : Table Part → List ℕ
rows_of t = write_rows write_part (bare_rows t)

-- one group, which is left out without entries
unfoldable pub group_of : ℕ → Table Part → List ℕ
group_of k nil = []
group_of k (row i v t) = shortest k ++ write_table write_part (bare_rows (row i v t))

-- how long that is, by the group's index, its count of rows and their length; and whether it counts
unfoldable pub group_length : (index count length_of_rows : ℕ) → ℕ
group_length k n l = cond (eqb n 0) 0 (length (shortest k) + length (shortest n) + l)

unfoldable pub one_if_some : ℕ → ℕ
one_if_some n = cond (eqb n 0) 0 1

-- the groups that are left
unfoldable pub kept_groups : Table (Table Part) → Table (Table (List ℕ))
kept_groups t = keep_rows unless_empty (bare_items t)

unfoldable pub groups_of : Table (Table Part) → List ℕ
groups_of t = write_rows (write_table write_part) (kept_groups t)
