-- The way to an index in a map, and what a payload's map says is what the payload says.
use Rattle.std.specs.Prelude.{Some, None}
use Prim.Native.Nat.{ℕ, ◌+◌, ◌≤◌, ◌<◌}
use mathlib.Core.List.{List}
use mathlib.Core.Option.{some}
use mathlib.Core.Path.{◌≡◌, refl, sym, ◌∙◌}
use native.Mathlib.Numerals.{add-one}
use native.Mathlib.Omega.{arith}
use borrow.Author.Rules.{rules}
use borrow.Author.Tests.{le-leb, lt-leb, eq-eqb, ne_eqb}
use Rattle.format.specs.Numbers.{number, limit32}
use Rattle.format.specs.Parts.{Part, sized}
use Rattle.format.specs.Tables.{Table, row, lookup, rows, table}
use Rattle.format.specs.Why.{why_from, why_in, group_in}
use Rattle.format.proofs.Laws.Codecs.{number_sound}
use Rattle.reading.specs.Cursors.{left as left_of}
use Rattle.reading.specs.Standing.{Stands, Known}
use Rattle.reading.specs.declared.Cursor.{Cursor}
use Rattle.reading.proofs.Standing.{one_value}
use Rattle.tables.specs.Stepping.{behind_at, RowSteps, GroupSteps}
use Rattle.tables.specs.declared.stepping.Rows.{Rows}
use Rattle.tables.specs.Returned.{RowStep}
use Rattle.tables.specs.Returned.{GroupStep}
use Rattle.tables.proofs.Accepted.{table_rows}
use Rattle.tables.proofs.Along.{Along, setting_out, still_known, ended, onward}
use Rattle.tables.proofs.FindLaws.{Seeking, count_known, seeking_begins, whole_table, rows_known, none_left, hit, past, group_on}
use Rattle.tables.proofs.StepLaws.{no_row, a_row, row_left, row_fewer, no_group, a_group, group_known, group_left, group_fewer}
use Rattle.neighbours.specs.Maps.{near_meant, reason_meant, SaysInMap, SaysInGroup}
use Rattle.neighbours.specs.Returned.{Neighbour}
use Rattle.neighbours.specs.declared.Why.{Why}
use Rattle.neighbours.specs.declared.Why.TheVariants.{Named, NoGroup, NoEntry}

-- Whenever the loop is at its beginning: what all rows say is what the rows to come say, with what went before
pub record Placing (id key : ℕ) (s : List ℕ) (begun left : Rows) (below : Neighbour) (position : ℕ) : Type 0 where
  pub along : Along sized s begun left
  pub same : why_in id key along.all ≡ why_from id (near_meant below) position key along.to_come_lem
  pub counted : position + left.more ≡ begun.more
  pub few : begun.more < limit32

module _ {id key : ℕ} {s : List ℕ} {c : Cursor} {begun : Rows} (count : Stands number s c begun.more begun.next) where
  pub placing_begins : Known (table sized) s c → Placing id key s begun begun None 0
  unfolding why_in
  placing_begins w = record {
    along = setting_out (table_rows sized count w.stands);
    same = refl;
    counted = omega arith;
    few = (number_sound c.at (left_of s c) count.reads).fine;
  }

module _ {id key : ℕ} {s : List ℕ} {begun left : Rows} {below : Neighbour} {position : ℕ} (t : Placing id key s begun left below position) where
  pub placing_known : Known (rows sized left.more 0) s left.next
  placing_known = still_known t.along

  -- behind a row below the key
  passed : {k : ℕ} {v : Part} {others : Table Part} → t.along.to_come_lem ≡ row k v others → k < key → why_in id key t.along.all ≡ why_from id (some k) (position + 1) key others
  unfolding why_from
  passed {k} split h = t.same ∙ rw (split, lt-leb key k h, add-one)

  module _ {x : RowStep} (r : RowSteps s left x) where
    module _ {c : Cursor} (count : Stands number s c begun.more begun.next) where
      in_map : {y : Why} → reason_meant y ≡ why_from id (near_meant below) position key t.along.to_come_lem → SaysInMap id key s c y
      in_map says = record { value = t.along.all; next = t.along.last; stands = whole_table sized count t.along; says = says ∙ sym t.same }

      pub map_ends : x ≡ None → SaysInMap id key s c (NoEntry below None)
      unfolding why_from
      map_ends h = in_map (rw (ended t.along (no_row r h)).nothing)

      module _ {k : ℕ} {part next : Cursor} (e : x ≡ Some (k, part, next)) where
        pub map_hit : key ≡ k → SaysInMap id key s c (Named id position)
        unfolding why_from
        map_hit q = in_map (rw (one_value t.along.rest (a_row r e).splits.to_come_lem, le-leb key k (omega arith), eq-eqb key k q))

        pub map_past : key ≤ k → (key ≡ k → ⊥) → SaysInMap id key s c (NoEntry below (Some k))
        unfolding why_from
        map_past h n = in_map (rw (one_value t.along.rest (a_row r e).splits.to_come_lem, le-leb key k h, ne_eqb key k n))

    module _ {k : ℕ} {part next : Cursor} (e : x ≡ Some (k, part, next)) where
      pub position_fits : position + 1 < 4_294_967_296
      position_fits = omega (arith, t.counted, t.few, row_left r e)

      pub map_on : {after : Rows} → k < key → after ≡ behind_at left next → Placing id key s begun after (Some k) (position + 1)
      map_on h is =
          let o = onward t.along (a_row r e).splits in
          rw is (record {
            along = o.along;
            same = rw o.same_all (passed o.split h);
            counted = omega (arith, t.counted, row_left r e);
            few = t.few;
          })

pub ruleset map_way = (placing_begins, count_known, placing_known, map_ends, map_hit, map_past, map_on, position_fits, row_left, row_fewer, rules)

-- Groups: where the one with the key is, its map says it
module _ {key inner : ℕ} {s : List ℕ} {c : Cursor} {begun left : Rows} {x : GroupStep} (t : Seeking (table sized) key s begun left) (r : GroupSteps s left x) (count : Stands number s c begun.more begun.next) where
  in_group : {y : Why} → reason_meant y ≡ group_in inner (lookup key t.along.all) → SaysInGroup key inner s c y
  in_group says = record { value = t.along.all; next = t.along.last; stands = whole_table (table sized) count t.along; says = says }

  pub groups_end : x ≡ None → SaysInGroup key inner s c NoGroup
  groups_end h = in_group (rw (none_left (table sized) t (no_group r h)))

  module _ {k : ℕ} {place : Cursor} (e : x ≡ Some (k, place)) where
    pub groups_past : key ≤ k → (key ≡ k → ⊥) → SaysInGroup key inner s c NoGroup
    groups_past h n = in_group (rw (past (table sized) t (a_group r e).splits h n))

    pub groups_hit : {y : Why} → key ≡ k → SaysInMap 2 inner s place y → SaysInGroup key inner s c y
    groups_hit q says =
        let g = a_group r e in
        let same : says.value ≡ g.value = one_value says.stands g.splits.value in
        in_group (rw (hit (table sized) t g.splits q, ← same) says.says)

pub ruleset group_way = (seeking_begins, count_known, rows_known, groups_end, groups_past, groups_hit, group_known, group_left, group_fewer, group_on, rules)
