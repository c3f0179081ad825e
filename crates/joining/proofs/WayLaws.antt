-- The way through two tables side by side: what is measured or written so far, and what is still to come. It serves maps and lists of groups.
use Prim.Native.Nat.{ℕ, ◌+◌, ◌≤◌, ◌<◌}
use mathlib.Core.List.{List, [], ◌++◌, append_assoc, append-nil}
use mathlib.Core.Path.{◌≡◌, refl, sym, ap, ◌∙◌}
use native.Mathlib.Nat.{zero-add}
use native.Mathlib.Omega.{arith}
use lib.ListN.{length, length-append}
use Rattle.format.specs.Joined.{merged}
use Rattle.format.specs.Reading.{Reader}
use Rattle.format.specs.Tables.{Table, nil, row}
use Rattle.format.proofs.Laws.Merging.{merge_no_left}
use Rattle.reading.proofs.Standing.{one_value, one_end}
use Rattle.tables.specs.declared.stepping.Rows.{Rows}
use Rattle.tables.proofs.Along.{Along, setting_out, ended}
use Rattle.writing.specs.Wrote.{Wrote}
use Rattle.writing.proofs.Laws.{wrote_nothing, wrote_join, wrote_length}
use Rattle.joining.specs.Sides.{Sides, Parted, Short, Room, PutsBoth, two_parts}

pub record Way {A : Type 0} (read : Reader A) (s : List ℕ) (begun : Rows) (o : List ℕ) (begun' left right : Rows) : Type 0 where
  pub ours : Along read s begun left
  pub theirs : Along read o begun' right

module _ {A : Type 0} {read : Reader A} (both : A → A → A) {s : List ℕ} {begun : Rows} {o : List ℕ} {begun' left right : Rows} (w : Way read s begun o begun' left right) where
  -- the merge of all that was set out with, and of what is to come
  abbrev pub all_of : Table A
  all_of = merged both w.ours.all w.theirs.all

  abbrev pub to_come : Table A
  to_come = merged both w.ours.to_come_lem w.theirs.to_come_lem

module _ {A : Type 0} {read : Reader A} {s : List ℕ} {begun : Rows} {o : List ℕ} {begun' : Rows} where
  abbrev pub way_begins : Sides read s begun o begun' → Way read s begun o begun' begun begun'
  way_begins w = record { ours = setting_out w.left_stands; theirs = setting_out w.right_stands }

  module _ {left right : Rows} (w : Way read s begun o begun' left right) where
    pub way_sides : Sides read s left o right
    way_sides = record { ours = w.ours.to_come_lem; theirs = w.theirs.to_come_lem; last = w.ours.last; last' = w.theirs.last; left_stands = w.ours.rest; right_stands = w.theirs.rest }

    abbrev pub all_sides : Sides read s begun o begun'
    all_sides = record { ours = w.ours.all; theirs = w.theirs.all; last = w.ours.last; last' = w.theirs.last; left_stands = w.ours.whole; right_stands = w.theirs.whole }

    module _ (both : A → A → A) where
      -- at the end nothing is to come
      pub way_ended : left.more ≡ 0 → right.more ≡ 0 → to_come both w ≡ nil
      way_ended g h =
          let none = (ended w.ours g).nothing in
          let none' = (ended w.theirs h).nothing in
          rw (none, none') (merge_no_left both nil)

      -- before it, behind a row it goes on
      pub record OnWay (k : ℕ) (v : A) (left' right' : Rows) : Type 0 where
        pub way : Way read s begun o begun' left' right'
        pub same_all : all_of both way ≡ all_of both w
        pub split : to_come both w ≡ row k v (to_come both way)

      pub on_way : {k : ℕ} {v : A} {left' right' : Rows} → Parted read both s left o right k v left' right' → OnWay k v left' right'
      on_way d =
          let last = d.same_last ∙ one_end d.sides.left_stands w.ours.rest in
          let last' = d.same_last' ∙ one_end d.sides.right_stands w.theirs.rest in
          let now = one_value w.ours.rest d.sides.left_stands in
          let now' = one_value w.theirs.rest d.sides.right_stands in
          record {
            way = record {
              ours = record { all = w.ours.all; to_come_lem = d.others.ours; last = w.ours.last; whole = w.ours.whole; rest = rw last at d.others.left_stands };
              theirs = record { all = w.theirs.all; to_come_lem = d.others.theirs; last = w.theirs.last; whole = w.theirs.whole; rest = rw last' at d.others.right_stands };
            };
            same_all = refl {a = all_of both w};
            split = rw (now, now') d.merge;
          }

-- How a table is written and counted: row by row
pub record Form {A : Type 0} (write : Table A → List ℕ) (one : ℕ → A → List ℕ) (count : Table A → ℕ) (weight : A → ℕ) : Type 0 where
  pub write_nil : write nil ≡ []
  pub write_row : (k : ℕ) (v : A) (t : Table A) → write (row k v t) ≡ one k v ++ write t
  pub count_nil : count nil ≡ 0
  pub count_row : (k : ℕ) (v : A) (t : Table A) → count (row k v t) ≡ weight v + count t
  pub count_least : (t : Table A) → count t ≤ length (write t)

-- Measured so far
pub record Measuring {A : Type 0} (read : Reader A) (both : A → A → A) (write : Table A → List ℕ) (count : Table A → ℕ) (s : List ℕ) (begun : Rows) (o : List ℕ) (begun' left right : Rows) (counted total : ℕ) : Type 0 where
  pub way : Way read s begun o begun' left right
  pub so_far : total + length (write (to_come both way)) ≡ length (write (all_of both way))
  pub many : counted + count (to_come both way) ≡ count (all_of both way)
  pub short : length (write (all_of both way)) < two_parts

-- Written so far
pub record Putting {A : Type 0} (read : Reader A) (both : A → A → A) (write : Table A → List ℕ) (s : List ℕ) (begun : Rows) (o : List ℕ) (begun' : Rows) (old : List ℕ) (start : ℕ) (new : List ℕ) (at : ℕ) (left right : Rows) : Type 0 where
  pub way : Way read s begun o begun' left right
  pub done : List ℕ
  pub so_far : Wrote old new start at done
  pub joined : done ++ write (to_come both way) ≡ write (all_of both way)
  pub room : start + length (write (all_of both way)) ≤ length old

module _ {A : Type 0} {read : Reader A} {both : A → A → A} {write : Table A → List ℕ} {one : ℕ → A → List ℕ} {count : Table A → ℕ} {weight : A → ℕ} (form : Form write one count weight) {s : List ℕ} {begun : Rows} {o : List ℕ} {begun' : Rows} where
  pub measuring_none : Short read both write s begun o begun' two_parts → Measuring read both write count s begun o begun' begun begun' 0 0
  measuring_none w =
      let all = merged both w.sides.ours w.sides.theirs in
      record { way = way_begins w.sides; so_far = zero-add (length (write all)); many = zero-add (count all); short = w.short }

  pub putting_none : {old : List ℕ} {at : ℕ} → Room read both write s begun o begun' old at → Putting read both write s begun o begun' old at old at begun begun'
  putting_none w = record { way = way_begins w.sides; done = []; so_far = wrote_nothing (omega (arith, w.room)); joined = refl; room = w.room }

  pub putting_none_all : {old : List ℕ} {at : ℕ} (w : Room read both write s begun o begun' old at) → all_of both (putting_none w).way ≡ merged both w.sides.ours w.sides.theirs
  unfolding putting_none
  putting_none_all w = refl

  module _ {left right : Rows} {counted total : ℕ} (t : Measuring read both write count s begun o begun' left right counted total) where
    -- at the end it is the whole
    module _ (g : left.more ≡ 0) (h : right.more ≡ 0) where
      pub measured_all : total ≡ length (write (all_of both t.way))
      measured_all =
          let none : length (write (to_come both t.way)) ≡ 0 = rw (way_ended t.way both g h, form.write_nil) in
          omega (arith, none, t.so_far)

      pub counted_all : counted ≡ count (all_of both t.way)
      counted_all =
          let none : count (to_come both t.way) ≡ 0 = rw (way_ended t.way both g h) form.count_nil in
          omega (arith, none, t.many)

    module _ {k : ℕ} {v : A} {left' right' : Rows} (d : Parted read both s left o right k v left' right') where
      pub measuring_on : Measuring read both write count s begun o begun' left' right' (counted + weight v) (total + length (one k v))
      measuring_on =
          let u = on_way t.way both d in
          let bytes : length (write (to_come both t.way)) ≡ length (one k v) + length (write (to_come both u.way)) = ap length (ap write u.split ∙ form.write_row k v (to_come both u.way)) ∙ length-append (one k v) (write (to_come both u.way)) in
          let rows : count (to_come both t.way) ≡ weight v + count (to_come both u.way) = ap count u.split ∙ form.count_row k v (to_come both u.way) in
          record {
            way = u.way;
            so_far = rw u.same_all (omega (arith, bytes, t.so_far));
            many = rw u.same_all (omega (arith, rows, t.many));
            short = rw u.same_all t.short;
          }

      pub total_short : total + length (one k v) < two_parts
      total_short = let m = measuring_on in omega (arith, m.so_far, m.short)

      pub counted_short : counted + weight v < two_parts
      counted_short = let m = measuring_on in omega (arith, m.many, m.short, form.count_least (all_of both m.way))

  module _ {old : List ℕ} {start : ℕ} {new : List ℕ} {at : ℕ} {left right : Rows} (t : Putting read both write s begun o begun' old start new at left right) where
    pub put_all : left.more ≡ 0 → right.more ≡ 0 → PutsBoth read both write s begun o begun' old new start at
    put_all g h =
        let nothing : write (to_come both t.way) ≡ [] = rw (way_ended t.way both g h) form.write_nil in
        let done_is : t.done ≡ write (all_of both t.way) = sym (append-nil t.done) ∙ rw (← nothing) t.joined in
        record { sides = all_sides t.way; wrote = rw done_is at t.so_far }

    module _ {k : ℕ} {v : A} {left' right' : Rows} (d : Parted read both s left o right k v left' right') where
      joined_on : (t.done ++ one k v) ++ write (to_come both (on_way t.way both d).way) ≡ write (all_of both t.way)
      joined_on =
          let u = on_way t.way both d in
          let split : write (to_come both t.way) ≡ one k v ++ write (to_come both u.way) = ap write u.split ∙ form.write_row k v (to_come both u.way) in
          append_assoc t.done (one k v) (write (to_come both u.way)) ∙ rw (← split) t.joined

      lengths : length t.done + length (one k v) + length (write (to_come both (on_way t.way both d).way)) ≡ length (write (all_of both t.way))
      lengths = sym (simp length-append) ∙ ap length joined_on

      pub row_room : at + length (one k v) ≤ length new
      row_room = omega (arith, lengths, t.room, t.so_far.next_is, wrote_length t.so_far)

      pub row_short : length (one k v) ≤ length (write (all_of both t.way))
      row_short = omega (arith, lengths)

      pub putting_on : {after : List ℕ} {next : ℕ} → Wrote new after at next (one k v) → Putting read both write s begun o begun' old start after next left' right'
      putting_on x =
          let u = on_way t.way both d in
          record {
            way = u.way;
            done = t.done ++ one k v;
            so_far = wrote_join t.so_far x;
            joined = rw u.same_all joined_on;
            room = rw u.same_all t.room;
          }

      pub putting_on_all : {after : List ℕ} {next : ℕ} (x : Wrote new after at next (one k v)) → all_of both (putting_on x).way ≡ all_of both t.way
      unfolding putting_on
      putting_on_all x = (on_way t.way both d).same_all
