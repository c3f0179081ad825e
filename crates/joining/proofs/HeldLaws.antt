-- Tables that may be missing: their counts, their rows, and how long two of them are as one.
use Rattle.std.specs.Prelude.{Some, None}
use Prim.Native.Nat.{ℕ, ◌+◌, ◌≤◌, ◌<◌}
use mathlib.Core.List.{List}
use mathlib.Core.Path.{◌≡◌, refl, sym, ap, ◌∙◌}
use native.Mathlib.Omega.{arith}
use lib.ListN.{length}
use Rattle.copying.specs.Bytes.{bare_rows, rows_of, kept_groups, groups_of}
use Rattle.copying.proofs.Laws.{number_shorter, rows_nil, rows_shorter, groups_nil, groups_shorter}
use Rattle.format.specs.Canonical.{write_part, write_table, unless_empty, bare_items}
use Rattle.format.specs.Joined.{merged, the_first}
use Rattle.format.specs.Numbers.{limit32}
use Rattle.format.specs.Parts.{Part, sized}
use Rattle.format.specs.Reading.{Reader}
use Rattle.format.specs.Tables.{Table, nil, size, rows, table}
use Rattle.format.proofs.Laws.Codecs.{sized_codec, table_codec, rows_sound}
use Rattle.format.proofs.Laws.Merging.{merge_unless_empty, map_merged, keep_merged}
use Rattle.format.proofs.Laws.WrittenMerges.{merge_rows_length, merge_length}
use Rattle.reading.specs.Cursors.{left as left_of}
use Rattle.reading.specs.Standing.{Stands}
use Rattle.reading.specs.declared.Cursor.{Cursor}
use Rattle.reading.proofs.Standing.{one_value}
use Rattle.tables.specs.Returned.{Held}
use Rattle.tables.specs.declared.stepping.Rows.{Rows}
use Rattle.tables.proofs.Accepted.{no_rows_lem, known_count, table_rows, rows_table}
use Rattle.writing.specs.Wrote.{Wrote}
use Rattle.joining.specs.Sides.{no_rows, HeldTable, HeldCount, HeldRows, HeldSmall, Sides}
use Rattle.joining.specs.Steps.{passed_by}
use Rattle.joining.specs.Merges.{ShortMaps, MeasuresMaps, RoomForMaps, PutsMaps, ShortGroups, MeasuresGroups, RoomForGroups, PutsGroups}
use Rattle.joining.specs.declared.groups.MergedGroups.{MergedGroups}
use Rattle.joining.specs.declared.maps.Merged.{Merged}

-- no rows stand at no place
nothing_stands : {A : Type 0} (read : Reader A) (s : List ℕ) → Stands (rows read 0 0) s no_rows.next nil no_rows.next
unfolding rows
nothing_stands read s = record { inside = record { ahead = omega arith; within = omega arith }; reads = refl; behind = record { ahead = omega arith; within = omega arith }; same_end = refl }

module _ {A : Type 0} (read : Reader A) {s : List ℕ} {t : Table A} where
  pub held_count : (held : Held) → HeldTable read s held t → HeldCount s held
  held_count None w = record { known = tt }
  held_count (Some c) w = record { known = known_count read w.holds.1 }

  pub held_rows : (held : Held) {r : Rows} → HeldTable read s held t → HeldRows s held r → (last : Cursor) × Stands (rows read r.more 0) s r.next t last
  held_rows None w a = let none = w.holds in let is = a.opens in rw (none, is) (no_rows.next, nothing_stands read s)
  held_rows (Some c) w a = (w.holds.0, table_rows read a.opens w.holds.1)

module _ {A : Type 0} {read : Reader A} {s o : List ℕ} {first second : Held} {ours theirs : Table A} {left right : Rows} where
  -- side by side
  abbrev pub held_sides : HeldTable read s first ours → HeldRows s first left → HeldTable read o second theirs → HeldRows o second right → Sides read s left o right
  held_sides w a v b =
      let l = held_rows read first w a in
      let r = held_rows read second v b in
      record { ours = ours; theirs = theirs; last = l.0; last' = r.0; left_stands = l.1; right_stands = r.1 }

-- a map that is held ends somewhere
pub held_end : {s : List ℕ} {t : Table Part} (held : Held) → HeldTable sized s held t → (next : Cursor) × passed_by s held t next
held_end None w = (no_rows.next, tt)
held_end (Some c) w = w.holds

-- only one table can be held
pub held_same : {A : Type 0} {read : Reader A} {s : List ℕ} {t u : Table A} (held : Held) → HeldTable read s held t → HeldTable read s held u → t ≡ u
held_same None w v = w.holds ∙ sym v.holds
held_same (Some c) w v = one_value w.holds.1 v.holds.1

-- the rows of a map were passed
pub held_passed : {s : List ℕ} {t v : Table Part} {r : Rows} {next : Cursor} (held : Held) → HeldTable sized s held t → HeldRows s held r → Stands (rows sized r.more 0) s r.next v next → (t ≡ v) × passed_by s held t next
held_passed {s} {t} {v} {r} {next} None w a d =
    let none : Stands (rows sized 0 0) s no_rows.next v next = rw a.opens at d in
    (w.holds ∙ sym (no_rows_lem sized 0 none), tt)
held_passed {s} {t} {v} {r} {next} (Some c) w a d =
    let there : Stands (table sized) s c v next = rows_table sized a.opens d in
    let same : t ≡ v = one_value w.holds.1 there in
    (same, rw same there)

-- How long two of them are as one, where each lies in a part of its own
pub merged_bare : (t u : Table Part) → bare_rows (merged the_first t u) ≡ merged the_first (bare_rows t) (bare_rows u)
merged_bare t u = map_merged the_first the_first (λ (p : Part). p.bytes) (λ v w. refl) t u

pub merged_items : (t u : Table (Table Part)) → bare_items (merged (merged the_first) t u) ≡ merged (merged the_first) (bare_items t) (bare_items u)
merged_items t u = map_merged (merged the_first) (merged the_first) bare_rows merged_bare t u

rows_long : (t u : Table Part) → length (rows_of (merged the_first t u)) ≤ length (rows_of t) + length (rows_of u)
unfolding rows_of
rows_long t u = rw (merged_bare t u) (merge_rows_length the_first write_part (λ v w. omega arith) (bare_rows t) (bare_rows u))

module _ {s : List ℕ} {left : Rows} {o : List ℕ} {right : Rows} (w : Sides (table sized) s left o right) where
  -- the groups that are left
  pub merged_kept : kept_groups (merged (merged the_first) w.ours w.theirs) ≡ merged (merged the_first) (kept_groups w.ours) (kept_groups w.theirs)
  unfolding kept_groups
  merged_kept =
      let c = left.next in
      let d = right.next in
      let sound = rows_sound (table_codec sized_codec) left.more 0 c.at (left_of s c) w.left_stands.reads in
      let sound' = rows_sound (table_codec sized_codec) right.more 0 d.at (left_of o d) w.right_stands.reads in
      rw (merged_items w.ours w.theirs) (keep_merged (merged the_first) (merged the_first) unless_empty (λ k x y _ _. merge_unless_empty the_first x y) (bare_items w.ours) (bare_items w.theirs) sound.sorted sound'.sorted)

  groups_long : length (groups_of (merged (merged the_first) w.ours w.theirs)) ≤ length (groups_of w.ours) + length (groups_of w.theirs)
  unfolding groups_of
  groups_long = rw merged_kept (merge_rows_length (merged the_first) (write_table write_part) (λ x y. merge_length the_first write_part (λ v w. omega arith) x y) (kept_groups w.ours) (kept_groups w.theirs))

-- one of them
module _ {s : List ℕ} {r : Rows} where
  map_small : {t : Table Part} (held : Held) → HeldSmall held → HeldTable sized s held t → HeldRows s held r → length (rows_of t) < limit32
  map_small None i w a = let none = w.holds in rw (none, rows_nil) (omega arith)
  map_small (Some c) i w a =
      let d = table_rows sized a.opens w.holds.1 in
      omega (arith, i.small, rows_shorter r.more 0 d, number_shorter a.opens, d.behind.ahead, d.same_end, a.opens.same_end)

  groups_small : {t : Table (Table Part)} (held : Held) → HeldSmall held → HeldTable (table sized) s held t → HeldRows s held r → length (groups_of t) < limit32
  groups_small None i w a = let none = w.holds in rw (none, groups_nil) (omega arith)
  groups_small (Some c) i w a =
      let d = table_rows (table sized) a.opens w.holds.1 in
      omega (arith, i.small, groups_shorter r.more 0 d, number_shorter a.opens, d.behind.ahead, d.same_end, a.opens.same_end)

-- For callers of `rows_of`, and of what takes its rows: the tables that are held, as one
module _ {s o : List ℕ} {first second : Held} {left right : Rows} (a : HeldRows s first left) (b : HeldRows o second right) where
  module _ {t u : Table Part} (w : HeldTable sized s first t) (v : HeldTable sized o second u) where
    pub maps_short : HeldSmall first → HeldSmall second → ShortMaps s left o right
    maps_short i j = record { sides = held_sides w a v b; short = omega (arith, rows_long t u, map_small first i w a, map_small second j v b) }

    pub maps_room : {out : List ℕ} {at : ℕ} → at + length (rows_of (merged the_first t u)) ≤ length out → RoomForMaps s left o right out at
    maps_room h = record { sides = held_sides w a v b; room = h }

    module _ {r : Merged} (c : MeasuresMaps s left o right r) where
      maps_same : merged the_first c.ours c.theirs ≡ merged the_first t u
      maps_same =
          let same = (held_passed first w a c.left_stands).0 in
          let same' = (held_passed second v b c.right_stands).0 in
          rw (same, same')

      pub maps_count : r.count ≡ size (merged the_first t u)
      maps_count = c.many ∙ ap (λ (x : Table Part). size x) maps_same

      pub maps_length : r.length ≡ length (rows_of (merged the_first t u))
      maps_length = c.long ∙ ap (λ x. length (rows_of x)) maps_same

    pub maps_wrote : {old new : List ℕ} {at next : ℕ} → PutsMaps s left o right old new at next → Wrote old new at next (rows_of (merged the_first t u))
    maps_wrote p =
        let same = (held_passed first w a p.sides.left_stands).0 in
        let same' = (held_passed second v b p.sides.right_stands).0 in
        rw (same, same') p.wrote

  module _ {t u : Table (Table Part)} (w : HeldTable (table sized) s first t) (v : HeldTable (table sized) o second u) where
    pub groups_short : HeldSmall first → HeldSmall second → ShortGroups s left o right
    groups_short i j = record { sides = held_sides w a v b; short = omega (arith, groups_long (held_sides w a v b), groups_small first i w a, groups_small second j v b) }

    pub groups_room : {out : List ℕ} {at : ℕ} → length (groups_of (merged (merged the_first) t u)) < limit32 → at + length (groups_of (merged (merged the_first) t u)) ≤ length out → RoomForGroups s left o right out at
    groups_room short h = record { sides = held_sides w a v b; room = h; short = short }

    groups_same : (x : Sides (table sized) s left o right) → merged (merged the_first) x.ours x.theirs ≡ merged (merged the_first) t u
    groups_same x =
        let d = held_sides w a v b in
        let same = one_value x.left_stands d.left_stands in
        let same' = one_value x.right_stands d.right_stands in
        rw (same, same')

    module _ {r : MergedGroups} (c : MeasuresGroups s left o right r) where
      pub groups_count : r.kept ≡ size (kept_groups (merged (merged the_first) t u))
      groups_count = c.many ∙ ap (λ (x : Table (Table Part)). size (kept_groups x)) (groups_same c.sides)

      pub groups_length : r.length ≡ length (groups_of (merged (merged the_first) t u))
      groups_length = c.long ∙ ap (λ x. length (groups_of x)) (groups_same c.sides)

    pub groups_wrote : {old new : List ℕ} {at next : ℕ} → PutsGroups s left o right old new at next → Wrote old new at next (groups_of (merged (merged the_first) t u))
    groups_wrote p = rw (← groups_same p.sides) p.wrote
