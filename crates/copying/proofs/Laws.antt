-- What is written of what was accepted, row by row, and how long that is. Nothing here is about code.
use Prim.Native.Nat.{ℕ, suc, ◌+◌, ◌-◌, ◌≤◌, ◌<◌}
use mathlib.Core.Bool.{false}
use mathlib.Core.List.{List, [], ◌++◌, append_assoc}
use mathlib.Core.Path.{◌≡◌, refl, sym, ◌∙◌}
use native.Mathlib.Nat.{zero-add}
use native.Mathlib.Omega.{arith}
use borrow.Author.Tests.{ne_eqb}
use lib.Dec.{eqb}
use lib.ListN.{length, take, drop, length-append}
use lib.Seq.{length-slice}
use Rattle.format.specs.Numbers.{number, shortest, limit32}
use Rattle.format.specs.Parts.{Part, sized}
use Rattle.format.specs.Tables.{Table, nil, row, size, map_table, rows, table}
use Rattle.format.specs.Canonical.{write_part, write_rows, write_table, unless_empty, keep_rows, bare_items}
use Rattle.format.proofs.Laws.Codecs.{number_sound, sized_codec, table_codec, rows_sound}
use Rattle.format.proofs.Laws.Tables.{size_keep, kept_rows, rows_shorter as rows_kept_shorter}
use Rattle.reading.specs.Cursors.{Inside, left}
use Rattle.reading.specs.Standing.{Stands}
use Rattle.reading.specs.declared.Cursor.{Cursor}
use Rattle.reading.proofs.PartSteps.{take_drop}
use Rattle.copying.specs.Bytes.{bare_rows, rows_of, group_of, group_length, one_if_some, kept_groups, groups_of}

-- Rows
pub rows_row : (k : ℕ) (p : Part) (t : Table Part) → rows_of (row k p t) ≡ shortest k ++ (write_part p.bytes ++ rows_of t)
unfolding rows_of write_rows map_table
rows_row k p t = refl

pub rows_nil : rows_of nil ≡ []
unfolding rows_of write_rows map_table
rows_nil = refl

-- what the code cuts out at a cursor is what the cursor has left
pub cut_left : {s : List ℕ} {c : Cursor} → Inside s c → take (c.end - c.at) (drop c.at s) ≡ left s c
cut_left {s} {c} i =
    let far : c.at + (c.end - c.at) ≡ c.end = omega (arith, i.ahead) in
    take_drop c.at (c.end - c.at) s ∙ rw far

-- how long a part's bytes are, and that they are no longer than what was read
pub part_length : {s : List ℕ} {c : Cursor} → Inside s c → length (left s c) + c.at ≡ c.end
part_length {s} {c} i = omega (arith, length-slice c.at c.end s i.within, i.ahead)

module _ {s : List ℕ} {c last : Cursor} where
  pub number_shorter : {k : ℕ} → Stands number s c k last → length (shortest k) + c.at ≤ last.at
  number_shorter w = omega (arith, (number_sound c.at (left s c) w.reads).shorter, part_length w.inside, part_length w.behind, w.same_end)

  pub part_fits : {p : Part} → Stands sized s c p last → length p.bytes < limit32
  part_fits w = (sized_codec.sound c.at (left s c) w.reads).fine

  pub rows_shorter : (n least : ℕ) {t : Table Part} → Stands (rows sized n least) s c t last → length (rows_of t) + c.at ≤ last.at
  unfolding rows_of
  rows_shorter n least w = omega (arith, (rows_sound sized_codec n least c.at (left s c) w.reads).shorter, part_length w.inside, part_length w.behind, w.same_end)

  pub rows_count : (n least : ℕ) {t : Table Part} → Stands (rows sized n least) s c t last → size (bare_rows t) ≡ n
  rows_count n least w = (rows_sound sized_codec n least c.at (left s c) w.reads).count

-- Groups, one by one: how each is written, how long that is, and which count
pub groups_nil : groups_of nil ≡ []
unfolding groups_of kept_groups keep_rows write_rows map_table
groups_nil = refl

pub none_kept : size (kept_groups nil) ≡ 0
unfolding kept_groups keep_rows map_table size
none_kept = refl

pub groups_row : (k : ℕ) (v : Table Part) (t : Table (Table Part)) → groups_of (row k v t) ≡ group_of k v ++ groups_of t
unfolding groups_of group_of kept_groups keep_rows unless_empty write_rows map_table
groups_row k nil t = refl
groups_row k (row i v u) t = sym (append_assoc (shortest k) (write_table write_part (bare_rows (row i v u))) (groups_of t))

with_rows : (i : ℕ) (v : Part) (u : Table Part) → eqb (size (bare_rows (row i v u))) 0 ≡ false
unfolding map_table size
with_rows i v u = ne_eqb (suc (size (bare_rows u))) 0 (λ q. absurd (omega arith))

pub group_bytes : (k : ℕ) (v : Table Part) → (size (bare_rows v) ≡ 0 → ⊥) → group_of k v ≡ shortest k ++ (shortest (size (bare_rows v)) ++ rows_of v)
unfolding group_of rows_of write_table map_table size
group_bytes k nil h = absurd (h refl)
group_bytes k (row i v u) h = refl

pub group_nil : (k : ℕ) → group_of k nil ≡ []
unfolding group_of
group_nil k = refl

pub kept_row : (k : ℕ) (v : Table Part) (t : Table (Table Part)) → size (kept_groups (row k v t)) ≡ one_if_some (size (bare_rows v)) + size (kept_groups t)
unfolding kept_groups keep_rows unless_empty map_table size one_if_some
kept_row k nil t = sym (zero-add (size (kept_groups t)))
kept_row k (row i v u) t = rw (with_rows i v u) (omega arith)

pub group_is : (k : ℕ) (v : Table Part) → length (group_of k v) ≡ group_length k (size (bare_rows v)) (length (rows_of v))
unfolding group_of group_length rows_of write_table write_rows map_table size
group_is k nil = refl
group_is k (row i v u) = rw (with_rows i v u) (simp length-append (omega arith))

module _ {s : List ℕ} {c last : Cursor} where
  pub groups_count : (n least : ℕ) {t : Table (Table Part)} → Stands (rows (table sized) n least) s c t last → size (kept_groups t) ≤ n
  unfolding kept_groups
  groups_count n least {t} w = omega (arith, (rows_sound (table_codec sized_codec) n least c.at (left s c) w.reads).count, size_keep unless_empty (bare_items t))

  pub groups_shorter : (n least : ℕ) {t : Table (Table Part)} → Stands (rows (table sized) n least) s c t last → length (groups_of t) + c.at ≤ last.at
  unfolding groups_of kept_groups
  groups_shorter n least {t} w =
      let sound = rows_sound (table_codec sized_codec) n least c.at (left s c) w.reads in
      let less = rows_kept_shorter unless_empty (write_table write_part) (write_table write_part) (λ k v u _ e. rw (kept_rows v e).0 (omega arith)) sound.sorted in
      omega (arith, sound.shorter, less, part_length w.inside, part_length w.behind, w.same_end)
