-- The loops that look up and pass by: what the rows to come have at the key is what all have.
use Rattle.std.specs.Prelude.{Ok, Some, None}
use Prim.Native.Nat.{ℕ, suc, ◌-◌, ◌≤◌, ◌<◌}
use mathlib.Core.List.{List}
use mathlib.Core.Option.{none, some}
use mathlib.Core.Path.{◌≡◌, refl, sym, ◌∙◌}
use native.Mathlib.Omega.{arith}
use borrow.Author.Rules.{rules}
use borrow.Author.Tests.{eq-eqb, ne_eqb}
use lib.Seq.{length-slice}
use Rattle.format.specs.Reading.{Reader, accepted}
use Rattle.format.specs.Questions.{answered, as_place}
use Rattle.format.specs.Numbers.{number}
use Rattle.format.specs.Parts.{sized}
use Rattle.format.specs.Tables.{Table, row, lookup, rows, table}
use Rattle.format.specs.Options.{some_then}
use Rattle.reading.specs.Cursors.{left as left_of}
use Rattle.reading.specs.Standing.{Stands, Known}
use Rattle.reading.specs.declared.Cursor.{Cursor}
use Rattle.reading.proofs.Standing.{one_value}
use Rattle.tables.specs.Stepping.{behind_at, Splits, RowSteps, GroupSteps}
use Rattle.tables.specs.Finding.{within, HeldInside, HeldOrdered, answer_of, Finds, Skips}
use Rattle.tables.specs.Steps.{held_of}
use Rattle.tables.specs.Returned.{Held}
use Rattle.tables.specs.declared.stepping.Rows.{Rows}
use Rattle.tables.specs.Returned.{RowStep}
use Rattle.tables.specs.Returned.{GroupStep}
use Rattle.tables.proofs.Rows.{rows_above}
use Rattle.tables.proofs.Accepted.{known_count, table_rows, rows_table}
use Rattle.tables.proofs.Along.{Along, setting_out, still_known, ended, onward}
use Rattle.tables.proofs.StepLaws.{no_row, a_row, row_left, row_fewer, no_group, a_group, group_known, group_left, group_fewer, group_passed}

-- What is held, as an answer
module _ {held : Held} where
  pub none_held : held ≡ None → (Ok None) ≡ answer_of held
  none_held e = rw e

  module _ {part : Cursor} (e : held ≡ Some part) where
    pub part_held : Ok (Some (record { offset = record { 0 = part.at }; length = part.end - part.at })) ≡ answer_of held
    part_held = rw e

    pub part_ordered : HeldOrdered held → part.at ≤ part.end
    part_ordered o = rw e at o

pub ruleset held_answers = (none_held, part_held, part_ordered, rules)

pub held_ordered_lem : (s : List ℕ) (held : Held) → HeldInside s held → HeldOrdered held
held_ordered_lem s None i = tt
held_ordered_lem s (Some part) i = i.ahead

pub held_means : (s : List ℕ) (held : Held) → HeldInside s held → answered (answer_of held) ≡ as_place (accepted (held_of s held))
unfolding as_place
held_means s None i = refl
held_means s (Some part) i = rw (length-slice part.at part.end s i.within)

-- whenever the loop is at its beginning
pub record Seeking {A : Type 0} (read : Reader A) (key : ℕ) (s : List ℕ) (begun left : Rows) : Type 0 where
  pub along : Along read s begun left
  pub same : lookup key along.all ≡ lookup key along.to_come_lem

pub count_known : {A : Type 0} (read : Reader A) {s : List ℕ} {c : Cursor} → Known (table read) s c → Known number s c
count_known read w = known_count read w.stands

module _ {A : Type 0} (read : Reader A) {s : List ℕ} {c : Cursor} {begun : Rows} (count : Stands number s c begun.more begun.next) where
  pub along_begins : Known (table read) s c → Along read s begun begun
  along_begins w = setting_out (table_rows read count w.stands)

  pub seeking_begins : (key : ℕ) → Known (table read) s c → Seeking read key s begun begun
  seeking_begins key w = record { along = setting_out (table_rows read count w.stands); same = refl }

  -- all the rows are the table
  pub whole_table : {left : Rows} (a : Along read s begun left) → Stands (table read) s c a.all a.last
  whole_table a = rows_table read count a.whole

module _ {A : Type 0} (read : Reader A) {key : ℕ} {s : List ℕ} {begun left : Rows} (t : Seeking read key s begun left) where
  pub rows_known : Known (rows read left.more 0) s left.next
  rows_known = still_known t.along

  pub none_left : left.more ≡ 0 → lookup key t.along.all ≡ none
  unfolding lookup
  none_left h = t.same ∙ rw (ended t.along h).nothing

  -- the first of the rows to come has it, or else the others
  missed : {k : ℕ} {v : A} {others : Table A} → t.along.to_come_lem ≡ row k v others → (key ≡ k → ⊥) → lookup key t.along.all ≡ lookup key others
  unfolding lookup
  missed {k} split n = t.same ∙ rw (split, ne_eqb key k n)

  module _ {k : ℕ} {place : Cursor} {v : A} {next : Cursor} (p : Splits read s left k place v next) where
    pub hit : key ≡ k → lookup key t.along.all ≡ some v
    unfolding lookup
    hit e = t.same ∙ rw (one_value t.along.rest p.to_come_lem, eq-eqb key k e)

    pub past : key ≤ k → (key ≡ k → ⊥) → lookup key t.along.all ≡ none
    past h n = missed (one_value t.along.rest p.to_come_lem) n ∙ rows_above read (left.more - 1) (suc k) next.at (left_of s next) key p.others_come.reads (omega arith)

    seeks_on : k < key → Seeking read key s begun (behind_at left next)
    seeks_on h = let o = onward t.along p in record { along = o.along; same = rw o.same_all (missed o.split (λ e. omega arith)) }

-- Rows with parts
module _ {key : ℕ} {s : List ℕ} {begun left : Rows} {x : RowStep} (t : Seeking sized key s begun left) (r : RowSteps s left x) where
  module _ {c : Cursor} (count : Stands number s c begun.more begun.next) where
    pub row_none : x ≡ None → Finds (table sized) (lookup key) s c None
    row_none h = record { value = t.along.all; next = t.along.last; stands = whole_table sized count t.along; found = sym (none_left sized t (no_row r h)); inside = tt }

    module _ {k : ℕ} {part next : Cursor} (e : x ≡ Some (k, part, next)) where
      pub row_hit : key ≡ k → Finds (table sized) (lookup key) s c (Some part)
      row_hit q = let p = a_row r e in record { value = t.along.all; next = t.along.last; stands = whole_table sized count t.along; found = sym (hit sized t p.splits q); inside = p.in_part }

      pub row_past : key ≤ k → (key ≡ k → ⊥) → Finds (table sized) (lookup key) s c None
      row_past h n = let p = a_row r e in record { value = t.along.all; next = t.along.last; stands = whole_table sized count t.along; found = sym (past sized t p.splits h n); inside = tt }

  module _ {k : ℕ} {part next : Cursor} {after : Rows} (e : x ≡ Some (k, part, next)) where
    pub row_on : k < key → after ≡ behind_at left next → Seeking sized key s begun after
    row_on h is = rw is (seeks_on sized t (a_row r e).splits h)

pub ruleset row_seeking = (seeking_begins, count_known, rows_known, row_none, row_hit, row_past, row_on, row_left, row_fewer, rules)

-- Past all rows
module _ {s : List ℕ} {begun left : Rows} {x : RowStep} (a : Along sized s begun left) (r : RowSteps s left x) where
  pub skipped : {c : Cursor} → Stands number s c begun.more begun.next → x ≡ None → Skips s c left.next
  skipped count h = record { value = a.all; stands = rows_table sized count (ended a (no_row r h)).stands }

  pub skips_on : {k : ℕ} {part next : Cursor} {after : Rows} → x ≡ Some (k, part, next) → after ≡ behind_at left next → Along sized s begun after
  skips_on e is = rw is (onward a (a_row r e).splits).along

pub ruleset skipping = (along_begins, count_known, still_known, skipped, skips_on, row_left, row_fewer, rules)

-- Rows with tables
module _ {key : ℕ} (inner : ℕ) {s : List ℕ} {c : Cursor} {begun left : Rows} {x : GroupStep} (t : Seeking (table sized) key s begun left) (r : GroupSteps s left x) where
  module _ (count : Stands number s c begun.more begun.next) where
    group_answers : {held : Held} → held_of s held ≡ some_then (lookup key t.along.all) (lookup inner) → HeldInside s held → Finds (table (table sized)) (within key inner) s c held
    group_answers e i = record { value = t.along.all; next = t.along.last; stands = whole_table (table sized) count t.along; found = e; inside = i }

    pub group_none : x ≡ None → Finds (table (table sized)) (within key inner) s c None
    group_none h = group_answers (rw (none_left (table sized) t (no_group r h))) tt

    module _ {k : ℕ} {place : Cursor} (e : x ≡ Some (k, place)) where
      pub group_past : key ≤ k → (key ≡ k → ⊥) → Finds (table (table sized)) (within key inner) s c None
      group_past h n = group_answers (rw (past (table sized) t (a_group r e).splits h n)) tt

      pub group_hit : {held : Held} → key ≡ k → Finds (table sized) (lookup inner) s place held → Finds (table (table sized)) (within key inner) s c held
      group_hit q f =
          let g = a_group r e in
          let same : f.value ≡ g.value = one_value f.stands g.splits.value in
          group_answers (rw (hit (table sized) t g.splits q, ← same) f.found) f.inside

module _ {key : ℕ} {s : List ℕ} {begun left : Rows} {x : GroupStep} {k : ℕ} {place next : Cursor} {after : Rows} where
  pub group_on : Seeking (table sized) key s begun left → GroupSteps s left x → x ≡ Some (k, place) → k < key → Skips s place next → after ≡ behind_at left next → Seeking (table sized) key s begun after
  group_on t r e h w is = rw is (seeks_on (table sized) t (group_passed r e w.stands) h)

pub ruleset group_seeking = (seeking_begins, count_known, rows_known, group_none, group_past, group_hit, group_known, group_left, group_fewer, group_on, rules)
