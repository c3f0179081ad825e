-- Two maps as one: the loops that measure and write it.
use Rattle.std.specs.Prelude.{Option, Some, None}
use Prim.Native.Nat.{ℕ, ◌+◌, ◌-◌, ◌^◌, ◌≤◌, ◌<◌}
use mathlib.Core.List.{List, ◌++◌, append_assoc}
use mathlib.Core.Path.{◌≡◌, refl, sym, ap, ◌∙◌}
use native.Mathlib.Omega.{arith}
use borrow.Author.Rules.{rules}
use lib.ListN.{length, length-append}
use Rattle.copying.specs.Bytes.{rows_of}
use Rattle.copying.specs.Standing.{FitsPart}
use Rattle.copying.proofs.Laws.{rows_row, rows_nil, part_length}
use Rattle.copying.proofs.Measuring.{sized_is}
use Rattle.format.specs.Canonical.{write_part}
use Rattle.format.specs.Joined.{the_first}
use Rattle.format.specs.Numbers.{shortest, limit32}
use Rattle.format.specs.Parts.{Part, sized}
use Rattle.format.specs.Tables.{Table, nil, row, size}
use Rattle.format.proofs.Laws.Numbers.{shortest_positive}
use Rattle.format.specs.declared.Whose.{Whose}
use Rattle.format.specs.declared.Whose.TheVariants.{Separate, Own}
use Rattle.reading.specs.Cursors.{left as left_of, part_of}
use Rattle.reading.specs.declared.Cursor.{Cursor}
use Rattle.tables.specs.declared.stepping.Rows.{Rows}
use Rattle.tables.proofs.Along.{ended}
use Rattle.writing.specs.Wrote.{Wrote}
use Rattle.writing.proofs.Laws.{wrote_join, wrote_length}
use Rattle.joining.specs.Sides.{Sides}
use Rattle.joining.specs.Ahead.{KnownRows, ReadAhead, Reads, Goes, Ready, NextOf}
use Rattle.joining.specs.Steps.{bytes_of, TakesNext, RowNext}
use Rattle.joining.specs.Merges.{ShortMaps, MeasuresMaps, ShortAhead, FitsText, PutsText, FitsRow, PutsRow, RoomForMaps, PutsMaps, RoomAhead}
use Rattle.joining.specs.declared.maps.Merged.{Merged}
use Rattle.joining.specs.declared.rows.Ahead.{Ahead}
use Rattle.joining.specs.declared.rows.NextRow.{NextRow}
use Rattle.joining.proofs.SideLaws.{left_known, right_known}
use Rattle.joining.proofs.AheadLaws.{read_ready}
use Rattle.joining.proofs.WayLaws.{Form, Measuring, Putting, way_sides, measuring_none, putting_none, measured_all, counted_all, measuring_on, total_short, counted_short, put_all, row_room, putting_on}

-- a row as it is written
abbrev pub one_row : ℕ → Part → List ℕ
one_row k p = shortest k ++ write_part p.bytes

abbrev one : Part → ℕ
one p = 1

pub rows_least : (t : Table Part) → size t ≤ length (rows_of t)
unfolding size
rows_least nil = omega arith
rows_least (row k p t) =
    let long : length (rows_of (row k p t)) ≡ length (shortest k) + (length (write_part p.bytes) + length (rows_of t)) = ap length (rows_row k p t) ∙ simp length-append in
    omega (arith, long, rows_least t, shortest_positive k)

pub maps_form : Form rows_of one_row size one
unfolding size
maps_form = record {
  write_nil = rows_nil;
  write_row = λ k p t. rows_row k p t ∙ sym (append_assoc (shortest k) (write_part p.bytes) (rows_of t));
  count_nil = refl;
  count_row = λ k p t. omega arith;
  count_least = rows_least;
}

-- What comes next, for callers
module _ {s : List ℕ} {left : Rows} {o : List ℕ} {right : Rows} where
  no_next_row : {x : Option NextRow} → RowNext s left o right x → x ≡ None → (left.more ≡ 0) × (right.more ≡ 0)
  no_next_row r e = rw e at r.steps

  next_row : {x : Option NextRow} {here : NextRow} → RowNext s left o right x → x ≡ Some here → TakesNext s left o right here.whose here.index here.part here.first here.second
  next_row r e = rw e at r.steps

-- The rows of both that are to come, read ahead
pub record OnBoth (s : List ℕ) (o : List ℕ) (ours theirs : Ahead) : Type 0 where
  pub first : ReadAhead s ours
  pub second : ReadAhead o theirs
  pub sides : Sides sized s ours.rows o theirs.rows

module _ {s o : List ℕ} {ours theirs : Ahead} (b : OnBoth s o ours theirs) where
  pub ours_ready : Ready ours
  ours_ready = read_ready ours b.first

  pub theirs_ready : Ready theirs
  theirs_ready = read_ready theirs b.second

  module _ {x : Option NextRow} (n : NextOf ours theirs x) where
    next_of : RowNext s ours.rows o theirs.rows x
    next_of = n.next s o b.first b.second b.sides

    ends : x ≡ None → (ours.rows.more ≡ 0) × (theirs.rows.more ≡ 0)
    ends h = no_next_row next_of h

    module _ {here : NextRow} (e : x ≡ Some here) where
      taken : TakesNext s ours.rows o theirs.rows here.whose here.index here.part here.first here.second
      taken = next_row next_of e

      pub text_ordered : here.part.at ≤ here.part.end
      text_ordered = taken.in_part.ahead

      pub text_small : here.part.end - here.part.at < limit32
      text_small = let t = taken in omega (arith, t.small, part_length t.in_part)

      pub ours_go : Goes s ours here.first
      ours_go = let t = taken in record { ahead = b.first; known = left_known t.parted.others; same = t.same_left }

      pub theirs_go : Goes o theirs here.second
      theirs_go = let t = taken in record { ahead = b.second; known = right_known t.parted.others; same = t.same_right }

      pub rows_fewer : {ours' theirs' : Ahead} → Reads s here.first ours' → Reads o here.second theirs' → ours'.rows.more + theirs'.rows.more < ours.rows.more + theirs.rows.more
      rows_fewer p q = rw (p.same_rows, q.same_rows) taken.fewer

-- Measured so far
pub record MeasuringMaps (s : List ℕ) (begun : Rows) (o : List ℕ) (begun' : Rows) (ours theirs : Ahead) (count total : ℕ) : Type 0 where
  pub so : Measuring sized the_first rows_of size s begun o begun' ours.rows theirs.rows count total
  pub first : ReadAhead s ours
  pub second : ReadAhead o theirs

pub maps_begin : {s o : List ℕ} {ours theirs : Ahead} → ShortAhead s ours o theirs → MeasuringMaps s ours.rows o theirs.rows ours theirs 0 0
maps_begin w = record { so = measuring_none maps_form w.maps; first = w.first; second = w.second }

module _ {s : List ℕ} {begun : Rows} {o : List ℕ} {begun' : Rows} {ours theirs : Ahead} {count total : ℕ} (t : MeasuringMaps s begun o begun' ours theirs count total) where
  pub measuring_both : OnBoth s o ours theirs
  measuring_both = record { first = t.first; second = t.second; sides = way_sides t.so.way }

  module _ {x : Option NextRow} (n : NextOf ours theirs x) where
    pub maps_measured : x ≡ None → MeasuresMaps s begun o begun' (record { count = count; length = total; left = ours.rows.next; right = theirs.rows.next })
    maps_measured h =
        let (g, g') = ends measuring_both n h in
        let way = t.so.way in
        record {
          ours = way.ours.all;
          theirs = way.theirs.all;
          left_stands = (ended way.ours g).stands;
          right_stands = (ended way.theirs g').stands;
          many = counted_all maps_form t.so g g';
          long = measured_all maps_form t.so g g';
        }

    module _ {here : NextRow} (e : x ≡ Some here) where
      pub count_fits : count + 1 < 2 ^ 64
      count_fits = omega (arith, counted_short maps_form t.so (taken measuring_both n e).parted)

      module _ {a b : ℕ} (key : a ≡ length (shortest here.index)) (text : b ≡ length (shortest (here.part.end - here.part.at)) + (here.part.end - here.part.at)) where
        row_is : total + a + b ≡ total + length (one_row here.index (part_of (bytes_of here.whose s o) here.part))
        row_is = omega (arith, key, text, sized_is (taken measuring_both n e).in_part, length-append (shortest here.index) (write_part (left_of (bytes_of here.whose s o) here.part)))

        pub row_fits : total + a + b < 2 ^ 64
        row_fits = omega (arith, row_is, total_short maps_form t.so (taken measuring_both n e).parted)

        pub key_fits : total + a < 2 ^ 64
        key_fits = omega (arith, row_fits)

        pub maps_on : {ours' theirs' : Ahead} → Reads s here.first ours' → Reads o here.second theirs' → MeasuringMaps s begun o begun' ours' theirs' (count + 1) (total + a + b)
        maps_on p q = rw row_is (record { so = rw (p.same_rows, q.same_rows) (measuring_on maps_form t.so (taken measuring_both n e).parted); first = p.ahead; second = q.ahead })

pub ruleset measuring_maps = (maps_begin, measuring_both, ours_ready, theirs_ready, maps_measured, count_fits, row_fits, key_fits, maps_on, text_ordered, text_small, ours_go, theirs_go, rows_fewer, rules)

-- and begun with rows that are not read yet
module _ {s o : List ℕ} {left right : Rows} (w : ShortMaps s left o right) where
  pub short_known : KnownRows s left
  short_known = left_known w.sides

  pub short_known' : KnownRows o right
  short_known' = right_known w.sides

  module _ {ours theirs : Ahead} (p : Reads s left ours) (q : Reads o right theirs) where
    pub short_ahead : ShortAhead s ours o theirs
    short_ahead = record { first = p.ahead; second = q.ahead; maps = rw (p.same_rows, q.same_rows) w }

    pub measured_ahead : {r : Merged} → MeasuresMaps s ours.rows o theirs.rows r → MeasuresMaps s left o right r
    measured_ahead m = rw (← p.same_rows, ← q.same_rows) m

pub ruleset measuring_ahead = (short_known, short_known', short_ahead, measured_ahead, rules)

-- A row's text, of one of the payloads
module _ {whose : Whose} {s o : List ℕ} {part : Cursor} where
  module _ {out : List ℕ} {at : ℕ} (f : FitsText whose s o part out at) where
    pub fits_separate : whose ≡ Separate → FitsPart s part out at
    fits_separate e = rw e at f.fits

    pub fits_own : whose ≡ Own → FitsPart o part out at
    fits_own e = rw e at f.fits

  module _ {old new : List ℕ} {at next : ℕ} where
    pub text_separate : whose ≡ Separate → Wrote old new at next (write_part (left_of s part)) → PutsText whose s o part old new at next
    text_separate e w = rw e (record { wrote = w })

    pub text_own : whose ≡ Own → Wrote old new at next (write_part (left_of o part)) → PutsText whose s o part old new at next
    text_own e w = rw e (record { wrote = w })

pub ruleset putting_text = (fits_separate, fits_own, text_separate, text_own, wrote_length, rules)

-- A row: its index, and its text
module _ {index : ℕ} {whose : Whose} {s o : List ℕ} {part : Cursor} {out : List ℕ} {at : ℕ} (f : FitsRow index whose s o part out at) where
  pub index_room : at + length (shortest index) ≤ length out
  index_room = omega (arith, f.room)

  module _ {mid : List ℕ} {text : ℕ} (w : Wrote out mid at text (shortest index)) where
    pub text_room : FitsText whose s o part mid text
    text_room = record { fits = record { inside = f.inside; small = f.small; room = omega (arith, f.room, w.next_is, wrote_length w) } }

    pub row_put : {after : List ℕ} {next : ℕ} → PutsText whose s o part mid after text next → PutsRow index whose s o part out after at next
    row_put v = record { wrote = wrote_join w v.wrote }

pub ruleset putting_row = (index_room, text_room, row_put, wrote_length, rules)

-- Written so far
pub record PuttingMaps (s : List ℕ) (begun : Rows) (o : List ℕ) (begun' : Rows) (old : List ℕ) (start : ℕ) (new : List ℕ) (at : ℕ) (ours theirs : Ahead) : Type 0 where
  pub so : Putting sized the_first rows_of s begun o begun' old start new at ours.rows theirs.rows
  pub first : ReadAhead s ours
  pub second : ReadAhead o theirs

pub maps_put_none : {s o : List ℕ} {ours theirs : Ahead} {old : List ℕ} {at : ℕ} → RoomAhead s ours o theirs old at → PuttingMaps s ours.rows o theirs.rows old at old at ours theirs
maps_put_none w = record { so = putting_none maps_form w.maps; first = w.first; second = w.second }

module _ {s : List ℕ} {begun : Rows} {o : List ℕ} {begun' : Rows} {old : List ℕ} {start : ℕ} {new : List ℕ} {at : ℕ} {ours theirs : Ahead} (t : PuttingMaps s begun o begun' old start new at ours theirs) where
  pub putting_both : OnBoth s o ours theirs
  putting_both = record { first = t.first; second = t.second; sides = way_sides t.so.way }

  pub maps_put_length : length new ≡ length old
  maps_put_length = wrote_length t.so.so_far

  module _ {x : Option NextRow} (n : NextOf ours theirs x) where
    pub maps_put : x ≡ None → PutsMaps s begun o begun' old new start at
    maps_put h = let (g, g') = ends putting_both n h in put_all maps_form t.so g g'

    module _ {here : NextRow} (e : x ≡ Some here) where
      pub maps_room : FitsRow here.index here.whose s o here.part new at
      maps_room =
          let p = taken putting_both n e in
          record {
            inside = p.in_part;
            small = p.small;
            room = rw (← length-append (shortest here.index) (write_part (left_of (bytes_of here.whose s o) here.part))) (row_room maps_form t.so p.parted);
          }

      pub maps_put_on : {after : List ℕ} {next : ℕ} {ours' theirs' : Ahead} → PutsRow here.index here.whose s o here.part new after at next → Reads s here.first ours' → Reads o here.second theirs' → PuttingMaps s begun o begun' old start after next ours' theirs'
      maps_put_on v p q = record { so = rw (p.same_rows, q.same_rows) (putting_on maps_form t.so (taken putting_both n e).parted v.wrote); first = p.ahead; second = q.ahead }

pub ruleset putting_maps = (maps_put_none, putting_both, ours_ready, theirs_ready, maps_put, maps_room, maps_put_on, ours_go, theirs_go, rows_fewer, maps_put_length, wrote_length, rules)

-- and begun with rows that are not read yet
module _ {s o : List ℕ} {left right : Rows} {out : List ℕ} {at : ℕ} (w : RoomForMaps s left o right out at) where
  pub room_known : KnownRows s left
  room_known = left_known w.sides

  pub room_known' : KnownRows o right
  room_known' = right_known w.sides

  module _ {ours theirs : Ahead} (p : Reads s left ours) (q : Reads o right theirs) where
    pub room_ahead : RoomAhead s ours o theirs out at
    room_ahead = record { first = p.ahead; second = q.ahead; maps = rw (p.same_rows, q.same_rows) w }

    pub put_ahead : {new : List ℕ} {next : ℕ} → PutsMaps s ours.rows o theirs.rows out new at next → PutsMaps s left o right out new at next
    put_ahead m = rw (← p.same_rows, ← q.same_rows) m

pub ruleset putting_ahead = (room_known, room_known', room_ahead, put_ahead, wrote_length, rules)
