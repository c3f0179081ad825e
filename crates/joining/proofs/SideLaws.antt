-- Two tables side by side: what their merge begins with, by which side comes first. Nothing here is about code.
use Prim.Native.Nat.{ℕ, ◌<◌}
use mathlib.Core.List.{List}
use mathlib.Core.Path.{◌≡◌, refl, sym, ap, ◌∙◌}
use Rattle.format.specs.Joined.{merged}
use Rattle.format.specs.Reading.{Reader}
use Rattle.format.specs.Tables.{nil, row, rows}
use Rattle.format.proofs.Laws.Merging.{merge_no_left, merge_no_right, merge_left, merge_right, merge_both}
use Rattle.reading.specs.Standing.{Known}
use Rattle.reading.specs.declared.Cursor.{Cursor}
use Rattle.reading.proofs.Standing.{one_value}
use Rattle.tables.specs.Stepping.{behind_at, Splits}
use Rattle.tables.specs.declared.stepping.Rows.{Rows}
use Rattle.tables.proofs.Accepted.{no_rows_lem, from_any}
use Rattle.joining.specs.Sides.{Sides, Parted}

module _ {A : Type 0} {read : Reader A} {s : List ℕ} {left : Rows} {o : List ℕ} {right : Rows} (w : Sides read s left o right) where
  pub left_known : Known (rows read left.more 0) s left.next
  left_known = record { value = w.ours; next = w.last; stands = w.left_stands }

  pub right_known : Known (rows read right.more 0) o right.next
  right_known = record { value = w.theirs; next = w.last'; stands = w.right_stands }

  -- one side has no rows
  left_none : left.more ≡ 0 → w.ours ≡ nil
  left_none h = no_rows_lem read 0 (rw h at w.left_stands)

  right_none : right.more ≡ 0 → w.theirs ≡ nil
  right_none h = no_rows_lem read 0 (rw h at w.right_stands)

  module _ (both : A → A → A) where
    -- the row that comes first is the left side's
    module _ {i : ℕ} {place next : Cursor} {v : A} (p : Splits read s left i place v next) where
      parted_left : merged both (row i v p.others) w.theirs ≡ row i v (merged both p.others w.theirs) → Parted read both s left o right i v (behind_at left next) right
      parted_left m =
          record {
            sides = record { ours = row i v p.others; theirs = w.theirs; last = p.last; last' = w.last'; left_stands = p.to_come_lem; right_stands = w.right_stands };
            others = record { ours = p.others; theirs = w.theirs; last = p.last; last' = w.last'; left_stands = from_any read _ _ p.others_come; right_stands = w.right_stands };
            same_last = refl;
            same_last' = refl;
            merge = m;
          }

      pub left_alone : right.more ≡ 0 → Parted read both s left o right i v (behind_at left next) right
      left_alone h =
          let none = right_none h in
          parted_left (rw none (merge_no_right both (row i v p.others) ∙ ap (row i v) (sym (merge_no_right both p.others))))

      pub left_first : {j : ℕ} {place' next' : Cursor} {u : A} → Splits read o right j place' u next' → i < j → Parted read both s left o right i v (behind_at left next) right
      left_first {j} {u = u} q h =
          let first : w.theirs ≡ row j u q.others = one_value w.right_stands q.to_come_lem in
          parted_left (rw first (merge_left both i j v u p.others q.others h))

    -- or the right side's
    module _ {j : ℕ} {place next : Cursor} {u : A} (q : Splits read o right j place u next) where
      parted_right : merged both w.ours (row j u q.others) ≡ row j u (merged both w.ours q.others) → Parted read both s left o right j u left (behind_at right next)
      parted_right m =
          record {
            sides = record { ours = w.ours; theirs = row j u q.others; last = w.last; last' = q.last; left_stands = w.left_stands; right_stands = q.to_come_lem };
            others = record { ours = w.ours; theirs = q.others; last = w.last; last' = q.last; left_stands = w.left_stands; right_stands = from_any read _ _ q.others_come };
            same_last = refl;
            same_last' = refl;
            merge = m;
          }

      pub right_alone : left.more ≡ 0 → Parted read both s left o right j u left (behind_at right next)
      right_alone h =
          let none = left_none h in
          parted_right (rw none (merge_no_left both (row j u q.others) ∙ ap (row j u) (sym (merge_no_left both q.others))))

      pub right_first : {i : ℕ} {place' next' : Cursor} {v : A} → Splits read s left i place' v next' → j < i → Parted read both s left o right j u left (behind_at right next)
      right_first {i} {v = v} p h =
          let first : w.ours ≡ row i v p.others = one_value w.left_stands p.to_come_lem in
          parted_right (rw first (merge_right both i j v u p.others q.others h))
      -- both sides have it

pub both_first : {A : Type 0} {read : Reader A} {s : List ℕ} {left : Rows} {o : List ℕ} {right : Rows} (both : A → A → A) {i j : ℕ} {place next place' next' : Cursor} {v u : A} → Splits read s left i place v next → Splits read o right j place' u next' → i ≡ j → Parted read both s left o right i (both v u) (behind_at left next) (behind_at right next')
both_first {read = read} both {i} {j} {v = v} {u} p q h =
    record {
      sides = record { ours = row i v p.others; theirs = row j u q.others; last = p.last; last' = q.last; left_stands = p.to_come_lem; right_stands = q.to_come_lem };
      others = record { ours = p.others; theirs = q.others; last = p.last; last' = q.last; left_stands = from_any read _ _ p.others_come; right_stands = from_any read _ _ q.others_come };
      same_last = refl;
      same_last' = refl;
      merge = merge_both both i j v u p.others q.others h;
    }
