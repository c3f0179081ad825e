-- Rule R16.19 of docs/RULES.md.
-- K13: the blocks that rows have move to the front, in their order; marks and holds go with them.
use Rattle.std.specs.Prelude.{ℕ, zero, suc, ◌+◌, ◌-◌, Bool, true, false, List, [], ◌∷◌, ◌++◌, map, length, drop, replicate}
use Rattle.sharing.specs.Table.{Mark, blank, Table, table}

unfoldable pub pack : {A : Type 0} → List Bool → List A → List A
pack [] l = []
pack (t ∷ ts) [] = []
pack (true ∷ ts) (x ∷ l) = x ∷ pack ts l
pack (false ∷ ts) (x ∷ l) = pack ts l

-- how many are taken before a place
unfoldable pub rank : List Bool → ℕ → ℕ
rank [] b = 0
rank (t ∷ ts) zero = 0
rank (true ∷ ts) (suc b) = suc (rank ts b)
rank (false ∷ ts) (suc b) = rank ts b

unfoldable pub moved : List Bool → ℕ → ℕ
moved ts zero = 0
moved ts (suc b) = suc (rank ts b)

unfoldable pub packed_blocks : List Bool → List (List ℕ) → List (List ℕ)
packed_blocks ts bs = pack ts bs ++ drop (length (pack ts bs)) bs

unfoldable pub packed_marks : List Bool → List Mark → List Mark
packed_marks ts ms = pack ts ms ++ (replicate (length ts - length (pack ts ms)) blank ++ drop (length ts) ms)

unfoldable pub tidied_table : Table → List Bool → Table
tidied_table t ts = table t.bytes (map (moved ts) t.holds) (packed_marks ts t.marks)
