-- Rules R8.1 to R8.4, R8.7 and R8.8 of docs/RULES.md.
-- Canonical means: each number in its fewest bytes; no name map without entries; no group without entries; no subsection left empty by that; no function without items. Module name and kept subsections stay, even if empty. Kept contents are unchanged. Assumes nothing.
use Rattle.std.specs.Prelude.{ℕ, List, [], ◌∷◌, ◌++◌, length}
use Rattle.std.proofs.Math.Option.{Option, none, some}
use Rattle.format.specs.Reading.{Reader, Judged, map_judged}
use Rattle.format.specs.Numbers.{shortest}
use Rattle.format.specs.Options.{some_then}
use Rattle.format.specs.Parts.{Part}
use Rattle.format.specs.Tables.{Table, nil, row, size, map_table}
use Rattle.format.specs.Names.{Kind, Content, single, names, names_by, whole, judge_names}
use Rattle.format.specs.Metadata.{any_item, hint_item, judge_metadata}

-- Each number in its fewest bytes
unfoldable pub write_part : List ℕ → List ℕ
write_part bytes = shortest (length bytes) ++ bytes

module _ {A : Type 0} (write : A → List ℕ) where
  unfoldable pub write_rows : Table A → List ℕ
  write_rows nil = []
  write_rows (row k v t) = shortest k ++ (write v ++ write_rows t)

  unfoldable pub write_table : Table A → List ℕ
  write_table t = shortest (size t) ++ write_rows t

-- Left out: a table without rows, and in a table the rows of which nothing is left
unfoldable pub unless_empty : {A : Type 0} → Table A → Option (Table A)
unless_empty nil = none
unless_empty (row k v t) = some (row k v t)

abbrev pub row_if : {A : Type 0} → ℕ → Option A → Table A → Table A
row_if k none t = t
row_if k (some v) t = row k v t

unfoldable pub keep_rows : {A B : Type 0} → (A → Option B) → Table A → Table B
keep_rows left nil = nil
keep_rows left (row k v t) = row_if k (left v) (keep_rows left t)

-- What is left of a subsection
abbrev pub trim : {X : Type 0} → Content X → Option (Content X)
trim (single x) = some (single x)
trim (names t) = some_then (unless_empty t) (λ u. some (names u))
trim (names_by t) = some_then (unless_empty (keep_rows unless_empty t)) (λ u. some (names_by u))
trim (whole x) = some (whole x)

unfoldable pub bare : Content Part → Content (List ℕ)
bare (single x) = single x.bytes
bare (names t) = names (map_table (λ x. x.bytes) t)
bare (names_by t) = names_by (map_table (map_table (λ x. x.bytes)) t)
bare (whole x) = whole x.bytes

unfoldable pub write_content : Content (List ℕ) → List ℕ
write_content (single x) = write_part x
write_content (names t) = write_table write_part t
write_content (names_by t) = write_table (write_table write_part) t
write_content (whole x) = x

unfoldable pub write_subsections : Table (Content (List ℕ)) → List ℕ
write_subsections nil = []
write_subsections (row id c t) = id ∷ (write_part (write_content c) ++ write_subsections t)

-- The rewriting of a name payload, over any table of ids
unfoldable pub rewrite_names : Table (Content Part) → List ℕ
rewrite_names t = write_subsections (keep_rows trim (map_table bare t))

unfoldable pub canonical_names : (ℕ → Kind) → List ℕ → Judged (List ℕ)
canonical_names kind_of bs = map_judged rewrite_names (judge_names kind_of 0 bs)

-- The rewriting of a metadata payload, over any item; with nothing left it is the one byte 00
abbrev pub bare_items : Table (Table Part) → Table (Table (List ℕ))
bare_items t = map_table (map_table (λ x. x.bytes)) t

unfoldable pub rewrite_metadata : Table (Table Part) → List ℕ
rewrite_metadata t = write_table (write_table write_part) (keep_rows unless_empty (bare_items t))

unfoldable pub canonical_of : Reader Part → List ℕ → Judged (List ℕ)
canonical_of item bs = map_judged rewrite_metadata (judge_metadata item 0 bs)

unfoldable pub canonical_metadata : List ℕ → Judged (List ℕ)
canonical_metadata bs = canonical_of any_item bs

unfoldable pub canonical_hints : List ℕ → Judged (List ℕ)
canonical_hints bs = canonical_of hint_item bs
