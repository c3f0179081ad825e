-- The loop that counts the rows of all groups.
use Rattle.std.specs.Prelude.{Some, None}
use Prim.Native.Nat.{ℕ, zero, suc, ◌+◌, ◌*◌, ◌^◌, ◌≤◌, ◌<◌}
use mathlib.Core.List.{List}
use mathlib.Core.Path.{◌≡◌, sym, ap, ◌∙◌}
use native.Mathlib.Omega.{arith}
use borrow.Author.Rules.{rules}
use lib.ListN.{length, length-append}
use Rattle.format.specs.Entries.{rows_under, group_rows}
use Rattle.format.proofs.Laws.Entries.{under_count}
use Rattle.format.specs.Laws.Outcomes.{got_value}
use Rattle.format.specs.Laws.Turns.{in_row}
use Rattle.format.specs.Numbers.{number}
use Rattle.format.specs.Parts.{Part, sized}
use Rattle.format.specs.Reading.{got, Reader}
use Rattle.format.specs.Tables.{Table, row, size, rows, table}
use Rattle.reading.specs.Cursors.{left as left_of}
use Rattle.reading.specs.Standing.{Stands, Known}
use Rattle.reading.specs.declared.Cursor.{Cursor}
use Rattle.tables.specs.Finding.{Skips}
use Rattle.tables.specs.Stepping.{behind_at, GroupSteps}
use Rattle.tables.specs.Returned.{GroupStep}
use Rattle.tables.specs.declared.stepping.Rows.{Rows}
use Rattle.tables.proofs.Accepted.{table_rows}
use Rattle.tables.proofs.Along.{Along, setting_out, still_known, ended, onward}
use Rattle.tables.proofs.StepLaws.{no_group, group_known, group_count_known, group_left, group_fewer, group_passed}
use Rattle.entries.specs.Counting.{Counts}

-- a table has as many rows as its count says
rows_size : {A : Type 0} (read : Reader A) (n least o : ℕ) (bs : List ℕ) {t : Table A} {o' : ℕ} {rest : List ℕ} → rows read n least o bs ≡ got t o' rest → size t ≡ n
unfolding rows size
rows_size read zero least o bs e = ap size (sym (got_value e))
rows_size read (suc n) least o bs e =
    in_row read n least o bs e λ k o₁ r₁ v o₂ r₂ more e₁ above e₂ e₃ is.
    rw (← is) (ap suc (rows_size read n (suc k) o₂ r₂ e₃))

pub rows_many : {A : Type 0} (read : Reader A) (n least : ℕ) {s : List ℕ} {c last : Cursor} {t : Table A} → Stands (rows read n least) s c t last → size t ≡ n
rows_many read n least {s} {c} w = rows_size read n least c.at (left_of s c) w.reads

pub table_many : {s : List ℕ} {c d last : Cursor} {n : ℕ} {t : Table Part} → Stands number s c n d → Stands (table sized) s c t last → size t ≡ n
table_many {n = n} i w = rows_many sized n 0 (table_rows sized i w)

pub group_count : (k : ℕ) (t : Table Part) (others : Table (Table Part)) → length (group_rows (row k t others)) ≡ size t + length (group_rows others)
unfolding group_rows
group_count k t others = length-append (rows_under k t) (group_rows others) ∙ ap (λ n. n + length (group_rows others)) (under_count k t)

-- Whenever the loop is at its beginning. No group has more rows than 32 bits count, so that their sum has 64
pub record Counting (s : List ℕ) (all left : Rows) (n : ℕ) : Type 0 where
  pub along : Along (table sized) s all left
  pub so_far : n + length (group_rows along.to_come_lem) ≡ length (group_rows along.all)
  pub below : n + left.more * 4_294_967_296 ≤ all.more * 4_294_967_296

module _ {s : List ℕ} {all : Rows} where
  pub counting_begins : Known (rows (table sized) all.more 0) s all.next → Counting s all all 0
  counting_begins w = record { along = setting_out w.stands; so_far = omega arith; below = omega arith }

  module _ {left : Rows} {n : ℕ} (t : Counting s all left n) where
    pub groups_known : Known (rows (table sized) left.more 0) s left.next
    groups_known = still_known t.along

    module _ {x : GroupStep} (r : GroupSteps s left x) where
      pub counted : x ≡ None → Counts s all n
      unfolding group_rows
      counted h =
          let e = ended t.along (no_group r h) in
          record { its = t.along.all; last = left.next; stands = e.stands; count = omega (arith, t.so_far, ap (λ u. length (group_rows u)) e.nothing) }

      module _ {k : ℕ} {place : Cursor} (e : x ≡ Some (k, place)) {m : ℕ} {d : Cursor} (i : Stands number s place m d) where
        pub count_fits : all.more < 2 ^ 32 → m < 2 ^ 32 → n + m < 2 ^ 64
        count_fits h g = omega (arith, t.below, group_left r e, h, g)

        pub counts_on : {next : Cursor} {after : Rows} → m < 2 ^ 32 → Skips s place next → after ≡ behind_at left next → Counting s all after (n + m)
        counts_on g w is =
            let p = group_passed r e w.stands in
            let o = onward t.along p in
            let many : size w.value ≡ m = table_many i w.stands in
            let here = ap (λ u. length (group_rows u)) o.split ∙ group_count k w.value o.along.to_come_lem in
            rw is (record {
              along = o.along;
              so_far = omega (arith, t.so_far, here, many, ap (λ u. length (group_rows u)) o.same_all);
              below = omega (arith, t.below, group_left r e, g);
            })

pub ruleset counting = (counting_begins, groups_known, counted, count_fits, counts_on, group_known, group_count_known, group_left, group_fewer, rules)
