-- Two lists of groups as one: the loops that measure and write it.
use Rattle.std.specs.Prelude.{Option, Some, None}
use Prim.Native.Nat.{ℕ, suc, ◌+◌, ◌^◌, ◌≤◌, ◌<◌}
use mathlib.Core.List.{List, [], ◌++◌}
use mathlib.Core.Path.{◌≡◌, refl, sym, ap, ◌∙◌}
use native.Mathlib.Omega.{arith}
use borrow.Author.Rules.{rules}
use lib.ListN.{length, length-append}
use Rattle.copying.specs.Bytes.{bare_rows, rows_of, group_of, group_length, one_if_some, kept_groups, groups_of}
use Rattle.copying.proofs.Laws.{rows_nil, groups_nil, none_kept, groups_row, kept_row, group_is, group_bytes, group_nil}
use Rattle.copying.proofs.Measuring.{shortest_short}
use Rattle.format.specs.Canonical.{write_part, write_rows, write_table}
use Rattle.format.specs.Joined.{merged, the_first}
use Rattle.format.specs.Numbers.{shortest, limit32}
use Rattle.format.specs.Parts.{Part, sized}
use Rattle.format.specs.Tables.{Table, nil, row, size, map_table, table}
use Rattle.format.proofs.Laws.Numbers.{shortest_positive}
use Rattle.reading.specs.declared.Cursor.{Cursor}
use Rattle.reading.proofs.Standing.{one_value}
use Rattle.tables.specs.Returned.{Held}
use Rattle.tables.specs.declared.stepping.Rows.{Rows}
use Rattle.writing.specs.Wrote.{Wrote}
use Rattle.writing.proofs.Laws.{wrote_nothing, wrote_join, wrote_length}
use Rattle.writing.proofs.NumberLaws.{takes_five}
use Rattle.joining.specs.Sides.{HeldCount, HeldRows, HeldMaps, Sides, Parted, Room}
use Rattle.joining.specs.Steps.{behind_taken, passed_by, Taken, TakesGroups, GroupNext}
use Rattle.joining.specs.Merges.{ShortMaps, MeasuresMaps, RoomForMaps, PutsMaps, ShortGroups, MeasuresGroups, RoomForGroups, PutsGroups, RoomForGroup, PutsGroup, ShortGroup, MeasuresGroup, RoomForHeld, PutsHeld}
use Rattle.joining.specs.declared.groups.OneGroup.{OneGroup}
use Rattle.joining.specs.declared.groups.PutGroup.{PutGroup}
use Rattle.joining.specs.declared.maps.Merged.{Merged}
use Rattle.joining.proofs.WayLaws.{Form, Measuring, Putting, all_of, way_sides, all_sides, measuring_none, putting_none, measured_all, counted_all, measuring_on, total_short, counted_short, put_all, row_room, row_short, putting_none_all, putting_on, putting_on_all}
use Rattle.joining.proofs.MapLaws.{rows_least}
use Rattle.joining.proofs.HeldLaws.{held_count, held_end, held_sides, held_same, held_passed}

-- A count
pub five_bytes : {count : ℕ} → limit32 ≤ count → 5 ≡ length (shortest count)
five_bytes h = takes_five (omega arith)

pub ruleset counts = (five_bytes, rules)

-- How groups are written and counted
bare_size : (t : Table Part) → size (bare_rows t) ≡ size t
unfolding size map_table
bare_size nil = refl
bare_size (row k p t) = ap suc (bare_size t)

abbrev group_count : Table (Table Part) → ℕ
group_count t = size (kept_groups t)

abbrev weight : Table Part → ℕ
weight v = one_if_some (size v)

written_least : {B : Type 0} (write : B → List ℕ) (t : Table B) → size t ≤ length (write_rows write t)
unfolding size write_rows
written_least write nil = omega arith
written_least write (row k v t) = simp length-append (omega (arith, written_least write t, shortest_positive k))

pub groups_least : (t : Table (Table Part)) → size (kept_groups t) ≤ length (groups_of t)
unfolding groups_of
groups_least t = written_least (write_table write_part) (kept_groups t)

groups_form : Form groups_of group_of group_count weight
groups_form = record {
  write_nil = groups_nil;
  write_row = groups_row;
  count_nil = none_kept;
  count_row = λ k v t. kept_row k v t ∙ rw (bare_size v);
  count_least = groups_least;
}

group_long : (k : ℕ) (v : Table Part) → length (group_of k v) ≡ group_length k (size v) (length (rows_of v))
group_long k v = group_is k v ∙ rw (bare_size v)

some_group : (k : ℕ) (v : Table Part) → (size v ≡ 0 → ⊥) → group_of k v ≡ shortest k ++ (shortest (size v) ++ rows_of v)
some_group k v h = group_bytes k v (λ q. h (sym (bare_size v) ∙ q)) ∙ rw (bare_size v)

no_group_rows : (v : Table Part) → size v ≡ 0 → v ≡ nil
unfolding size
no_group_rows nil h = refl
no_group_rows (row k p t) h = absurd (omega arith)

-- its rows are no longer than the group
rows_in_group : (k : ℕ) (v : Table Part) → length (rows_of v) ≤ length (group_of k v)
unfolding size
rows_in_group k nil = rw rows_nil (omega arith)
rows_in_group k (row i p t) =
    let long : length (group_of k (row i p t)) ≡ length (shortest k) + (length (shortest (size (row i p t))) + length (rows_of (row i p t))) = ap length (some_group k (row i p t) (λ q. absurd (omega arith))) ∙ simp length-append in
    omega (arith, long)

-- What comes next, for callers
module _ {s : List ℕ} {left : Rows} {o : List ℕ} {right : Rows} where
  no_next_group : {x : Option (ℕ × Held × Held)} → GroupNext s left o right x → x ≡ None → (left.more ≡ 0) × (right.more ≡ 0)
  no_next_group r e = rw e at r.steps

  module _ {x : Option (ℕ × Held × Held)} {k : ℕ} {first second : Held} (r : GroupNext s left o right x) (e : x ≡ Some (k, first, second)) where
    next_group : TakesGroups s left o right k first second
    next_group = rw e at r.steps

    pub first_taken : Taken left first
    first_taken = next_group.first_taken

    pub second_taken : Taken right second
    second_taken = next_group.second_taken

    pub groups_fewer : (n n' : Cursor) {left' right' : Rows} → left' ≡ behind_taken left first n → right' ≡ behind_taken right second n' → left'.more + right'.more < left.more + right.more
    groups_fewer n n' is is' = rw (is, is') (next_group.fewer n n')

    -- whatever maps were passed, they are those of the group, and what comes behind it is known
    module _ (m : HeldMaps s first o second) where
      abbrev group_value : Table Part
      group_value = merged the_first m.ours m.theirs

      group_parted : (n n' : Cursor) → passed_by s first m.ours n → passed_by o second m.theirs n' → Parted (table sized) (merged the_first) s left o right k group_value (behind_taken left first n) (behind_taken right second n')
      group_parted n n' p q =
          let g = next_group in
          let same = held_same first g.maps.first_holds m.first_holds in
          let same' = held_same second g.maps.second_holds m.second_holds in
          rw (← same, ← same') (g.parted n n' (rw same p) (rw same' q))

-- One group, by the places of its maps
module _ {s : List ℕ} {first : Held} {o : List ℕ} {second : Held} (m : HeldMaps s first o second) where
  -- there are cursors behind them
  record Passed : Type 0 where
    next : Cursor
    next' : Cursor
    passed : passed_by s first m.ours next
    passed' : passed_by o second m.theirs next'

  passed_by_lem : Passed
  passed_by_lem =
      let p = held_end first m.first_holds in
      let q = held_end second m.second_holds in
      record { next = p.0; next' = q.0; passed = p.1; passed' = q.1 }

  module _ {map other : Rows} (a : HeldRows s first map) (b : HeldRows o second other) {r : Merged} (c : MeasuresMaps s map o other r) where
    ours_passed : (m.ours ≡ c.ours) × passed_by s first m.ours r.left
    ours_passed = held_passed first m.first_holds a c.left_stands

    theirs_passed : (m.theirs ≡ c.theirs) × passed_by o second m.theirs r.right
    theirs_passed = held_passed second m.second_holds b c.right_stands

    value_is : merged the_first c.ours c.theirs ≡ merged the_first m.ours m.theirs
    value_is = let same = ours_passed.0 in let same' = theirs_passed.0 in rw (same, same')

module _ {k : ℕ} {s : List ℕ} {first : Held} {o : List ℕ} {second : Held} (t : ShortGroup k s first o second) where
  pub first_count : HeldCount s first
  first_count = held_count sized first t.maps.first_holds

  pub second_count : HeldCount o second
  second_count = held_count sized second t.maps.second_holds

  module _ {map other : Rows} (a : HeldRows s first map) (b : HeldRows o second other) where
    pub group_maps_short : ShortMaps s map o other
    group_maps_short = record { sides = held_sides t.maps.first_holds a t.maps.second_holds b; short = t.short }

    module _ {r : Merged} (c : MeasuresMaps s map o other r) where
      rows_are : r.length ≡ length (rows_of (merged the_first t.maps.ours t.maps.theirs))
      rows_are = c.long ∙ ap (λ v. length (rows_of v)) (value_is t.maps a b c)

      count_is : r.count ≡ size (merged the_first t.maps.ours t.maps.theirs)
      count_is = c.many ∙ ap (λ (v : Table Part). size v) (value_is t.maps a b c)

      pub group_sum : length (shortest k) + length (shortest r.count) + r.length < 2 ^ 64
      group_sum = omega (arith, shortest_short k, shortest_short r.count, rows_are, t.short)

      pub group_measured : {g u : ℕ} → g ≡ group_length k r.count r.length → u ≡ one_if_some r.count → MeasuresGroup k s first o second (record { one = u; length = g; left = r.left; right = r.right })
      group_measured long one = record {
        maps = t.maps;
        passed = (ours_passed t.maps a b c).1;
        passed' = (theirs_passed t.maps a b c).1;
        counts = one ∙ ap one_if_some count_is;
        long = long ∙ rw (count_is, rows_are) (sym (group_long k _));
      }

pub ruleset measuring_group = (first_count, second_count, group_maps_short, group_sum, group_measured, rules)

-- Measured so far
pub record MeasuringGroups (s : List ℕ) (begun : Rows) (o : List ℕ) (begun' left right : Rows) (kept total : ℕ) : Type 0 where
  pub so : Measuring (table sized) (merged the_first) groups_of group_count s begun o begun' left right kept total

pub groups_begin : {s : List ℕ} {o : List ℕ} (begun begun' : Rows) → ShortGroups s begun o begun' → MeasuringGroups s begun o begun' begun begun' 0 0
groups_begin begun begun' w = record { so = measuring_none groups_form w }

module _ {s : List ℕ} {begun : Rows} {o : List ℕ} {begun' left right : Rows} {kept total : ℕ} (t : MeasuringGroups s begun o begun' left right kept total) where
  pub groups_known : Sides (table sized) s left o right
  groups_known = way_sides t.so.way

  module _ {x : Option (ℕ × Held × Held)} (r : GroupNext s left o right x) where
    pub groups_measured : x ≡ None → MeasuresGroups s begun o begun' (record { kept = kept; length = total })
    groups_measured h =
        let (g, g') = no_next_group r h in
        record { sides = all_sides t.so.way; many = counted_all groups_form t.so g g'; long = measured_all groups_form t.so g g' }

    module _ {k : ℕ} {first second : Held} (e : x ≡ Some (k, first, second)) where
      pub group_short : ShortGroup k s first o second
      group_short =
          let m = (next_group r e).maps in
          let p = passed_by_lem m in
          record { maps = m; short = omega (arith, rows_in_group k (group_value r e m), total_short groups_form t.so (group_parted r e m p.next p.next' p.passed p.passed')) }

      module _ {g : OneGroup} (c : MeasuresGroup k s first o second g) where
        parted : Parted (table sized) (merged the_first) s left o right k (group_value r e c.maps) (behind_taken left first g.left) (behind_taken right second g.right)
        parted = group_parted r e c.maps g.left g.right c.passed c.passed'

        pub groups_fit : total + g.length < 2 ^ 64
        groups_fit = omega (arith, c.long, total_short groups_form t.so parted)

        pub groups_few : kept + g.one < 2 ^ 64
        groups_few = omega (arith, c.counts, counted_short groups_form t.so parted)

        pub groups_on : {left' right' : Rows} → left' ≡ behind_taken left first g.left → right' ≡ behind_taken right second g.right → MeasuringGroups s begun o begun' left' right' (kept + g.one) (total + g.length)
        groups_on is is' = rw (is, is', c.long, c.counts) (record { so = measuring_on groups_form t.so parted })

pub ruleset measuring_groups = (groups_begin, groups_known, groups_measured, group_short, groups_fit, groups_few, groups_on, first_taken, second_taken, groups_fewer, rules)

-- One group
module _ {s : List ℕ} {left : Rows} {o : List ℕ} {right : Rows} (k count : ℕ) {old : List ℕ} {at : ℕ} (f : RoomForGroup s left o right k count old at) where
  abbrev value : Table Part
  value = merged the_first f.sides.ours f.sides.theirs

  pub group_left_out : count ≡ 0 → PutsGroup s left o right k old old at at
  group_left_out e =
      let none : value ≡ nil = no_group_rows value (sym f.counts ∙ e) in
      let nothing : group_of k value ≡ [] = rw none (group_nil k) in
      record { sides = f.sides; wrote = rw nothing (wrote_nothing (omega (arith, f.room))) }

  pub count_small : count < limit32
  count_small = f.few

  module _ (h : count ≡ 0 → ⊥) where
    bytes : group_of k value ≡ shortest k ++ (shortest count ++ rows_of value)
    bytes = some_group k value (λ q. h (f.counts ∙ q)) ∙ rw f.counts

    long : length (group_of k value) ≡ length (shortest k) + (length (shortest count) + length (rows_of value))
    long = ap length bytes ∙ simp length-append

    pub group_index_room : at + length (shortest k) ≤ length old
    group_index_room = omega (arith, f.room, long)

    module _ {mid : List ℕ} {place : ℕ} (v : Wrote old mid at place (shortest k)) where
      pub group_count_room : place + length (shortest count) ≤ length mid
      group_count_room = omega (arith, f.room, long, v.next_is, wrote_length v)

      module _ {mid' : List ℕ} {from : ℕ} (w : Wrote mid mid' place from (shortest count)) where
        pub group_rows_room : RoomForMaps s left o right mid' from
        group_rows_room = record { sides = f.sides; room = omega (arith, f.room, long, v.next_is, wrote_length v, w.next_is, wrote_length w) }

        pub group_put : {new : List ℕ} {next : ℕ} → PutsMaps s left o right mid' new from next → PutsGroup s left o right k old new at next
        group_put p =
            let same = one_value f.sides.left_stands p.sides.left_stands in
            let same' = one_value f.sides.right_stands p.sides.right_stands in
            record { sides = f.sides; wrote = rw bytes (wrote_join v (wrote_join w (rw (same, same') p.wrote))) }

pub ruleset putting_group = (group_left_out, count_small, group_index_room, group_count_room, group_rows_room, group_put, wrote_length, rules)

-- One group, by the places of its maps
module _ {k : ℕ} {s : List ℕ} {first : Held} {o : List ℕ} {second : Held} {old : List ℕ} {at : ℕ} (t : RoomForHeld k s first o second old at) where
  pub first_put_count : HeldCount s first
  first_put_count = held_count sized first t.maps.first_holds

  pub second_put_count : HeldCount o second
  second_put_count = held_count sized second t.maps.second_holds

  module _ {map other : Rows} (a : HeldRows s first map) (b : HeldRows o second other) where
    abbrev both_sides : Sides sized s map o other
    both_sides = held_sides t.maps.first_holds a t.maps.second_holds b

    abbrev both_value : Table Part
    both_value = merged the_first t.maps.ours t.maps.theirs

    pub group_put_short : ShortMaps s map o other
    group_put_short = record { sides = both_sides; short = omega (arith, t.short, rows_in_group k both_value) }

    module _ {r : Merged} (c : MeasuresMaps s map o other r) where
      pub group_room : RoomForGroup s map o other k r.count old at
      group_room =
          let count : r.count ≡ size both_value = c.many ∙ ap (λ (v : Table Part). size v) (value_is t.maps a b c) in
          record { sides = both_sides; counts = count; few = omega (arith, count, rows_least both_value, rows_in_group k both_value, t.short); room = t.room }

      pub held_put : {new : List ℕ} {next : ℕ} → PutsGroup s map o other k old new at next → PutsHeld k s first o second old new at (record { at = next; left = r.left; right = r.right })
      held_put p =
          let same = one_value both_sides.left_stands p.sides.left_stands in
          let same' = one_value both_sides.right_stands p.sides.right_stands in
          record { maps = t.maps; passed = (ours_passed t.maps a b c).1; passed' = (theirs_passed t.maps a b c).1; wrote = rw (same, same') p.wrote }

pub ruleset putting_held = (first_put_count, second_put_count, group_put_short, group_room, held_put, wrote_length, rules)

-- Written so far
pub record PuttingGroups (s : List ℕ) (begun : Rows) (o : List ℕ) (begun' : Rows) (old : List ℕ) (start : ℕ) (new : List ℕ) (at : ℕ) (left right : Rows) : Type 0 where
  pub so : Putting (table sized) (merged the_first) groups_of s begun o begun' old start new at left right
  pub short : length (groups_of (all_of (merged the_first) so.way)) < limit32

pub groups_put_none : {s : List ℕ} {o : List ℕ} (begun begun' : Rows) {old : List ℕ} {at : ℕ} → RoomForGroups s begun o begun' old at → PuttingGroups s begun o begun' old at old at begun begun'
groups_put_none {s} {o} begun begun' {old} {at} w =
    let room : Room (table sized) (merged the_first) groups_of s begun o begun' old at = record { sides = w.sides; room = w.room } in
    record { so = putting_none groups_form room; short = rw (putting_none_all groups_form room) w.short }

module _ {s : List ℕ} {begun : Rows} {o : List ℕ} {begun' : Rows} {old : List ℕ} {start : ℕ} {new : List ℕ} {at : ℕ} {left right : Rows} (t : PuttingGroups s begun o begun' old start new at left right) where
  pub groups_put_known : Sides (table sized) s left o right
  groups_put_known = way_sides t.so.way

  pub groups_put_length : length new ≡ length old
  groups_put_length = wrote_length t.so.so_far

  module _ {x : Option (ℕ × Held × Held)} (r : GroupNext s left o right x) where
    pub groups_put : x ≡ None → PutsGroups s begun o begun' old new start at
    groups_put h = let (g, g') = no_next_group r h in put_all groups_form t.so g g'

    module _ {k : ℕ} {first second : Held} (e : x ≡ Some (k, first, second)) where
      pub held_room : RoomForHeld k s first o second new at
      held_room =
          let m = (next_group r e).maps in
          let p = passed_by_lem m in
          let d = group_parted r e m p.next p.next' p.passed p.passed' in
          record { maps = m; short = omega (arith, t.short, row_short groups_form t.so d); room = row_room groups_form t.so d }

      pub groups_put_on : {after : List ℕ} {g : PutGroup} {left' right' : Rows} → PutsHeld k s first o second new after at g → left' ≡ behind_taken left first g.left → right' ≡ behind_taken right second g.right → PuttingGroups s begun o begun' old start after g.at left' right'
      groups_put_on {g = g} p is is' =
          let d = group_parted r e p.maps g.left g.right p.passed p.passed' in
          let all = putting_on_all groups_form t.so d p.wrote in
          rw (is, is') (record { so = putting_on groups_form t.so d p.wrote; short = rw all t.short })

pub ruleset putting_groups = (groups_put_none, groups_put_known, groups_put, held_room, groups_put_on, first_taken, second_taken, groups_fewer, groups_put_length, wrote_length, rules)
