-- The loop that puts the rows of all groups, for any number of lists.
use Rattle.std.specs.Prelude.{Some, None}
use Prim.Native.Nat.{ℕ, ◌+◌, ◌^◌, ◌<◌}
use mathlib.Core.List.{List, [], ◌++◌, append_assoc}
use mathlib.Core.Path.{◌≡◌, refl, sym, ap, ◌∙◌}
use native.Mathlib.Omega.{arith}
use borrow.Author.Rules.{rules}
use lib.ListN.{length}
use Rattle.format.specs.Entries.{Listed, rows_under, group_rows}
use Rattle.format.specs.Numbers.{number}
use Rattle.format.specs.Parts.{Part, sized}
use Rattle.format.specs.Tables.{rows, table}
use Rattle.reading.specs.Standing.{Stands, Known}
use Rattle.reading.specs.declared.Cursor.{Cursor}
use Rattle.tables.specs.Stepping.{behind_at, GroupSteps}
use Rattle.tables.specs.Returned.{GroupStep}
use Rattle.tables.specs.declared.stepping.Rows.{Rows}
use Rattle.tables.proofs.Accepted.{table_rows, rows_table}
use Rattle.tables.proofs.Along.{Along, setting_out, still_known, ended, onward}
use Rattle.tables.proofs.StepLaws.{no_group, a_group, group_count_known, group_left, group_fewer, group_passed}
use Rattle.writing.specs.Columns.{Room, Columns}
use Rattle.writing.proofs.Columns.{less_room, same_room, no_rows_put, columns_join}
use Rattle.entries.specs.declared.rows.Put.{Put}
use Rattle.entries.specs.Putting.{Every, RowsFit, PutsRows, GroupsFit, PutsGroups}
use Rattle.entries.proofs.CountLaws.{table_many, group_count}
use Rattle.entries.proofs.PutLaws.{append_none, every_first, every_other, long_first, long_second, long_third, long_fourth}

-- Whenever the loop is at its beginning, the rows of some groups are put, and those to come fit behind them
module _ (columns : List (Listed Part → ℕ)) (P : Part → Type 0) (s : List ℕ) (all : Rows) (lists lists' : List (List ℕ)) where
  pub record PuttingGroups (left : Rows) (at : ℕ) : Type 0 where
    pub along : Along (table sized) s all left
    pub every : Every (Every P) along.to_come_lem
    pub done : List (Listed Part)
    pub split : group_rows along.all ≡ done ++ group_rows along.to_come_lem
    pub put : Columns done 0 at columns lists lists'
    pub room : Room (at + length (group_rows along.to_come_lem)) lists'
    pub counts : at + length (group_rows along.to_come_lem) ≡ length (group_rows along.all)
    pub below : length (group_rows along.all) < 2 ^ 64

module _ {columns : List (Listed Part → ℕ)} {P : Part → Type 0} {s : List ℕ} {all : Rows} {lists : List (List ℕ)} where
  pub groups_begin : GroupsFit P s all lists → length columns ≡ length lists → PuttingGroups columns P s all lists lists all 0
  groups_begin f e = record {
    along = setting_out f.stands;
    every = f.every;
    done = [];
    split = refl;
    put = no_rows_put columns e (less_room f.room (omega arith));
    room = less_room f.room (omega arith);
    counts = omega arith;
    below = f.below;
  }

  module _ {lists' : List (List ℕ)} {left : Rows} {at : ℕ} (t : PuttingGroups columns P s all lists lists' left at) where
    pub groups_known : Known (rows (table sized) left.more 0) s left.next
    groups_known = still_known t.along

    module _ {x : GroupStep} (r : GroupSteps s left x) where
      pub groups_put : x ≡ None → PutsGroups columns s all lists lists'
      unfolding group_rows
      groups_put h =
          let e = ended t.along (no_group r h) in
          let all_done : group_rows t.along.all ≡ t.done = t.split ∙ ap (λ u. t.done ++ group_rows u) e.nothing ∙ append_none t.done in
          let end : at ≡ length (group_rows t.along.all) = omega (arith, t.counts, ap (λ u. length (group_rows u)) e.nothing) in
          record { its = t.along.all; last = left.next; stands = e.stands; put = rw (← end, all_done) t.put }

      module _ {k : ℕ} {place : Cursor} (e : x ≡ Some (k, place)) {g : Rows} (i : Stands number s place g.more g.next) where
        -- the rows of the next group, and how many they are
        pub group_fits : RowsFit P s g at lists'
        group_fits =
            let p = a_group r e in
            let o = onward t.along p.splits in
            let many = table_many i p.splits.value in
            let here = ap (λ u. length (group_rows u)) o.split ∙ group_count k p.value o.along.to_come_lem in
            record {
              its = p.value;
              last = p.next;
              stands = table_rows sized i p.splits.value;
              every = every_first (rw o.split at t.every);
              room = less_room t.room (omega (arith, here, many));
              below = omega (arith, here, many, t.counts, t.below);
            }

        pub groups_on : {lists'' : List (List ℕ)} {put : Put} {after : Rows} → PutsRows columns s g k at lists' lists'' put → after ≡ behind_at left put.next → PuttingGroups columns P s all lists lists'' after put.at
        unfolding group_rows
        groups_on w is =
            let stands = rows_table sized i w.stands in
            let o = onward t.along (group_passed r e stands) in
            let many = table_many i stands in
            let here = ap (λ u. length (group_rows u)) o.split ∙ group_count k w.its o.along.to_come_lem in
            rw is (record {
              along = o.along;
              every = every_other (rw o.split at t.every);
              done = t.done ++ rows_under k w.its;
              split = rw o.same_all (t.split ∙ ap (λ u. t.done ++ group_rows u) o.split ∙ sym (append_assoc t.done (rows_under k w.its) (group_rows o.along.to_come_lem)));
              put = columns_join t.put w.put;
              room = less_room (same_room w.put t.room) (omega (arith, here, many, w.many));
              counts = omega (arith, t.counts, here, many, w.many, ap (λ u. length (group_rows u)) o.same_all);
              below = rw o.same_all t.below;
            })

pub ruleset grouping = (groups_begin, groups_known, groups_put, group_fits, groups_on, group_count_known, group_left, group_fewer, long_first, long_second, long_third, long_fourth, rules)
