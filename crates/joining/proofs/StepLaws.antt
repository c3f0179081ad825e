-- What comes next of two tables, by what comes next of each.
use Rattle.std.specs.Prelude.{Some, None}
use Prim.Native.Nat.{ℕ, ◌≤◌, ◌<◌}
use mathlib.Core.List.{List}
use mathlib.Core.Path.{◌≡◌, refl}
use native.Mathlib.Omega.{arith}
use borrow.Author.Rules.{rules}
use Rattle.copying.proofs.Laws.{part_fits}
use Rattle.format.specs.Joined.{merged, the_first}
use Rattle.format.specs.Numbers.{number}
use Rattle.format.specs.Parts.{sized}
use Rattle.format.specs.Tables.{nil, table}
use Rattle.format.proofs.Laws.Merging.{merge_no_left, merge_no_right}
use Rattle.format.specs.declared.Whose.TheVariants.{Separate, Own}
use Rattle.reading.specs.Cursors.{part_of}
use Rattle.reading.specs.Standing.{Stands, Known}
use Rattle.reading.specs.declared.Cursor.{Cursor}
use Rattle.tables.specs.Stepping.{behind_at, Splits, RowSteps, GroupSteps}
use Rattle.tables.specs.Returned.{Held}
use Rattle.tables.specs.declared.stepping.Rows.{Rows}
use Rattle.tables.specs.Returned.{RowStep}
use Rattle.tables.specs.Returned.{GroupStep}
use Rattle.tables.proofs.StepLaws.{no_row, a_row, no_group, a_group, group_left, group_known, group_passed}
use Rattle.joining.specs.Sides.{no_rows, HeldCount, HeldRows, Sides, Parted}
use Rattle.joining.specs.Steps.{RowNext, behind_taken, Taken, GroupNext}
use Rattle.joining.proofs.SideLaws.{left_known, right_known, left_alone, left_first, right_alone, right_first, both_first}

-- The rows of a table that may be missing
module _ {s : List ℕ} {held : Held} where
  pub opens_none : held ≡ None → HeldRows s held no_rows
  opens_none e = rw e (record { opens = refl })

  module _ {c : Cursor} (e : held ≡ Some c) where
    pub count_there : HeldCount s held → Known number s c
    count_there w = rw e at w.known

    pub opens_part : {r : Rows} → Stands number s c r.more r.next → HeldRows s held r
    opens_part w = rw e (record { opens = w })

pub ruleset opening = (opens_none, count_there, opens_part, rules)

-- and those behind the next one, where it was taken
module _ (left : Rows) (held : Held) where
  pub none_taken : (next : Cursor) → held ≡ None → left ≡ behind_taken left held next
  unfolding behind_taken
  none_taken next e = rw e

  module _ {c : Cursor} (e : held ≡ Some c) where
    pub taken_left : Taken left held → 0 < left.more
    taken_left w = rw e at w.some_left

    pub one_taken : (next : Cursor) {r : Rows} → r ≡ behind_at left next → r ≡ behind_taken left held next
    unfolding behind_taken
    one_taken next is = rw e is

pub ruleset taking = (none_taken, taken_left, one_taken, rules)

-- Rows
module _ {s : List ℕ} {left : Rows} {o : List ℕ} {right : Rows} {x y : RowStep} (p : RowSteps s left x) (q : RowSteps o right y) where
  pub rows_end : x ≡ None → y ≡ None → RowNext s left o right None
  rows_end g h = record { steps = (no_row p g, no_row q h) }

  module _ (w : Sides sized s left o right) where
    module _ {i : ℕ} {part next : Cursor} {l : Rows} (e : x ≡ Some (i, part, next)) (is : l ≡ behind_at left next) where
      ours : Parted sized the_first s left o right i (part_of s part) (behind_at left next) right → RowNext s left o right (Some (record { whose = Separate; index = i; part = part; first = l; second = right }))
      ours d =
          let t = a_row p e in
          rw is (record { steps = record { parted = d; in_part = t.in_part; small = part_fits t.splits.value; fewer = omega (arith, t.splits.some_left); same_left = λ n. absurd (omega (arith, n, t.splits.some_left)); same_right = λ _. refl } })

      pub ours_alone : y ≡ None → RowNext s left o right (Some (record { whose = Separate; index = i; part = part; first = l; second = right }))
      ours_alone h = ours (left_alone w the_first (a_row p e).splits (no_row q h))

      pub ours_first : {j : ℕ} {other after : Cursor} → y ≡ Some (j, other, after) → i < j → RowNext s left o right (Some (record { whose = Separate; index = i; part = part; first = l; second = right }))
      ours_first f h = ours (left_first w the_first (a_row p e).splits (a_row q f).splits h)

    module _ {j : ℕ} {other after : Cursor} {r : Rows} (f : y ≡ Some (j, other, after)) (is : r ≡ behind_at right after) where
      theirs : Parted sized the_first s left o right j (part_of o other) left (behind_at right after) → RowNext s left o right (Some (record { whose = Own; index = j; part = other; first = left; second = r }))
      theirs d =
          let t = a_row q f in
          rw is (record { steps = record { parted = d; in_part = t.in_part; small = part_fits t.splits.value; fewer = omega (arith, t.splits.some_left); same_left = λ _. refl; same_right = λ n. absurd (omega (arith, n, t.splits.some_left)) } })

      pub theirs_alone : x ≡ None → RowNext s left o right (Some (record { whose = Own; index = j; part = other; first = left; second = r }))
      theirs_alone h = theirs (right_alone w the_first (a_row q f).splits (no_row p h))

      pub theirs_first : {i : ℕ} {part next : Cursor} → x ≡ Some (i, part, next) → j < i → RowNext s left o right (Some (record { whose = Own; index = j; part = other; first = left; second = r }))
      theirs_first e h = theirs (right_first w the_first (a_row q f).splits (a_row p e).splits h)

  module _ {i j : ℕ} {part next other after : Cursor} {l r : Rows} (e : x ≡ Some (i, part, next)) (f : y ≡ Some (j, other, after)) where
    pub of_both : j ≤ i → i ≤ j → l ≡ behind_at left next → r ≡ behind_at right after → RowNext s left o right (Some (record { whose = Separate; index = i; part = part; first = l; second = r }))
    of_both g h is is' =
        let t = a_row p e in
        let u = a_row q f in
        rw (is, is') (record { steps = record { parted = both_first the_first t.splits u.splits (omega arith); in_part = t.in_part; small = part_fits t.splits.value; fewer = omega (arith, t.splits.some_left, u.splits.some_left); same_left = λ n. absurd (omega (arith, n, t.splits.some_left)); same_right = λ n. absurd (omega (arith, n, u.splits.some_left)) } })

-- Groups
module _ {s : List ℕ} {left : Rows} {o : List ℕ} {right : Rows} {x y : GroupStep} (p : GroupSteps s left x) (q : GroupSteps o right y) where
  pub groups_end : x ≡ None → y ≡ None → GroupNext s left o right None
  groups_end g h = record { steps = (no_group p g, no_group q h) }

  module _ (w : Sides (table sized) s left o right) where
    module _ {i : ℕ} {place : Cursor} (e : x ≡ Some (i, place)) where
      our_group : ((next : Cursor) → Splits (table sized) s left i place (group_known p e).value next → Parted (table sized) (merged the_first) s left o right i (group_known p e).value (behind_at left next) right) → GroupNext s left o right (Some (i, (Some place), None))
      unfolding behind_taken
      our_group d =
          let g = group_known p e in
          record {
            steps = record {
              maps = record { ours = g.value; theirs = nil; first_holds = record { holds = (g.next, g.stands) }; second_holds = record { holds = refl } };
              first_taken = record { some_left = group_left p e };
              second_taken = record { some_left = tt };
              parted = λ next next' passed _. rw (merge_no_right the_first g.value) (d next (group_passed p e passed));
              fewer = λ next next'. omega (arith, group_left p e);
            };
          }

      pub our_group_alone : y ≡ None → GroupNext s left o right (Some (i, (Some place), None))
      our_group_alone h = our_group (λ next d. left_alone w (merged the_first) d (no_group q h))

      pub our_group_first : {j : ℕ} {other : Cursor} → y ≡ Some (j, other) → i < j → GroupNext s left o right (Some (i, (Some place), None))
      our_group_first f h = our_group (λ next d. left_first w (merged the_first) d (a_group q f).splits h)

    module _ {j : ℕ} {other : Cursor} (f : y ≡ Some (j, other)) where
      their_group : ((next : Cursor) → Splits (table sized) o right j other (group_known q f).value next → Parted (table sized) (merged the_first) s left o right j (group_known q f).value left (behind_at right next)) → GroupNext s left o right (Some (j, None, (Some other)))
      unfolding behind_taken
      their_group d =
          let g = group_known q f in
          record {
            steps = record {
              maps = record { ours = nil; theirs = g.value; first_holds = record { holds = refl }; second_holds = record { holds = (g.next, g.stands) } };
              first_taken = record { some_left = tt };
              second_taken = record { some_left = group_left q f };
              parted = λ next next' _ passed. rw (merge_no_left the_first g.value) (d next' (group_passed q f passed));
              fewer = λ next next'. omega (arith, group_left q f);
            };
          }

      pub their_group_alone : x ≡ None → GroupNext s left o right (Some (j, None, (Some other)))
      their_group_alone h = their_group (λ next d. right_alone w (merged the_first) d (no_group p h))

      pub their_group_first : {i : ℕ} {place : Cursor} → x ≡ Some (i, place) → j < i → GroupNext s left o right (Some (j, None, (Some other)))
      their_group_first e h = their_group (λ next d. right_first w (merged the_first) d (a_group p e).splits h)

  module _ {i j : ℕ} {place other : Cursor} (e : x ≡ Some (i, place)) (f : y ≡ Some (j, other)) where
    pub group_of_both : j ≤ i → i ≤ j → GroupNext s left o right (Some (i, (Some place), (Some other)))
    unfolding behind_taken
    group_of_both a b =
        let g = group_known p e in
        let h = group_known q f in
        record {
          steps = record {
            maps = record { ours = g.value; theirs = h.value; first_holds = record { holds = (g.next, g.stands) }; second_holds = record { holds = (h.next, h.stands) } };
            first_taken = record { some_left = group_left p e };
            second_taken = record { some_left = group_left q f };
            parted = λ next next' passed passed'. both_first (merged the_first) (group_passed p e passed) (group_passed q f passed') (omega arith);
            fewer = λ next next'. omega (arith, group_left p e, group_left q f);
          };
        }

pub ruleset next_groups = (left_known, right_known, groups_end, our_group_alone, our_group_first, their_group_alone, their_group_first, group_of_both, rules)
