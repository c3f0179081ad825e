-- The loops that write: what is written so far, and what is still to come.
use Rattle.std.specs.Prelude.{Some, None}
use Prim.Native.Nat.{ℕ, ◌+◌, ◌-◌, ◌≤◌, ◌<◌}
use mathlib.Core.List.{List, [], ◌++◌, append_assoc, append-nil}
use mathlib.Core.Path.{◌≡◌, refl, sym, ap, ◌∙◌}
use native.Mathlib.Omega.{arith}
use borrow.Author.Rules.{rules}
use lib.ListN.{length, take, drop, length-append}
use lib.Seq.{length-slice}
use Rattle.format.specs.Numbers.{number, shortest, limit32}
use Rattle.format.specs.Parts.{Part, sized}
use Rattle.format.specs.Tables.{Table, rows, table}
use Rattle.format.specs.Canonical.{write_part}
use Rattle.reading.specs.Cursors.{left as left_of, part_of}
use Rattle.reading.specs.Standing.{Stands, Known}
use Rattle.reading.specs.declared.Cursor.{Cursor}
use Rattle.reading.proofs.Standing.{one_value}
use Rattle.tables.specs.Stepping.{behind_at, RowSteps, GroupSteps}
use Rattle.tables.specs.declared.stepping.Rows.{Rows}
use Rattle.tables.specs.Returned.{RowStep}
use Rattle.tables.specs.Returned.{GroupStep}
use Rattle.tables.proofs.Accepted.{no_rows_lem, no_way, rows_table}
use Rattle.tables.proofs.Along.{Along, Onward, setting_out, still_known, ended, onward}
use Rattle.tables.proofs.StepLaws.{no_row, a_row, row_left, row_fewer, no_group, group_left, group_fewer, group_count_known, group_rows_known, group_passed}
use Rattle.writing.specs.Wrote.{Wrote}
use Rattle.writing.proofs.Laws.{wrote_nothing, wrote_join, wrote_length}
use Rattle.copying.specs.Bytes.{rows_of, group_of, groups_of}
use Rattle.copying.specs.Standing.{FitsPart, Fits, Puts}
use Rattle.copying.specs.declared.Put.{Put}
use Rattle.copying.proofs.Laws.{cut_left, rows_row, rows_nil, part_fits, rows_count, groups_nil, groups_row, group_bytes, group_nil}

-- A part
module _ {s : List ℕ} {part : Cursor} {old : List ℕ} {at : ℕ} (f : FitsPart s part old at) where
  size_is : part.end - part.at ≡ length (left_of s part)
  size_is = sym (length-slice part.at part.end s f.inside.within)

  whole_is : length (write_part (left_of s part)) ≡ length (shortest (part.end - part.at)) + length (left_of s part)
  unfolding write_part
  whole_is = simp length-append (rw size_is)

  pub part_ordered : part.at ≤ part.end
  part_ordered = f.inside.ahead

  pub part_within : part.end ≤ length s
  part_within = f.inside.within

  pub part_small : part.end - part.at < limit32
  part_small = rw size_is f.small

  pub part_number_room : at + length (shortest (part.end - part.at)) ≤ length old
  part_number_room = omega (arith, f.room, whole_is)

  module _ {mid : List ℕ} {text : ℕ} (w : Wrote old mid at text (shortest (part.end - part.at))) where
    pub part_text_room : text + length (take (part.end - part.at) (drop part.at s)) ≤ length mid
    part_text_room = rw (cut_left f.inside) (omega (arith, f.room, whole_is, w.next_is, wrote_length w))

    pub part_put : {new : List ℕ} {next : ℕ} → Wrote mid new text next (take (part.end - part.at) (drop part.at s)) → Wrote old new at next (write_part (left_of s part))
    unfolding write_part
    part_put v = rw (← size_is) (wrote_join w (rw (cut_left f.inside) at v))

pub ruleset part_putting = (part_ordered, part_within, part_small, part_number_room, part_text_room, part_put, wrote_length, rules)

-- Rows
pub record Putting (s : List ℕ) (begun : Rows) (old : List ℕ) (start : ℕ) (new : List ℕ) (at : ℕ) (left : Rows) : Type 0 where
  pub along : Along sized s begun left
  pub done : List ℕ
  pub so_far : Wrote old new start at done
  pub joined : done ++ rows_of along.to_come_lem ≡ rows_of along.all
  pub room : start + length (rows_of along.all) ≤ length old

pub putting_none : {s : List ℕ} (begun : Rows) {old : List ℕ} {at : ℕ} → Fits (rows sized begun.more 0) rows_of s begun.next old at → Putting s begun old at old at begun
putting_none begun f = record { along = setting_out f.stands; done = []; so_far = wrote_nothing (omega (arith, f.room)); joined = refl; room = f.room }

module _ {s : List ℕ} {begun : Rows} {old : List ℕ} {start : ℕ} {new : List ℕ} {at : ℕ} {left : Rows} (t : Putting s begun old start new at left) where
  pub putting_known : Known (rows sized left.more 0) s left.next
  putting_known = still_known t.along

  module _ {x : RowStep} {k : ℕ} {part next : Cursor} (r : RowSteps s left x) (e : x ≡ Some (k, part, next)) where
    -- the row that is to be written, and the room for it
    record Ahead : Type 0 where
      on : Onward t.along k (part_of s part) (behind_at left next)
      row_is : (t.done ++ shortest k) ++ (write_part (left_of s part) ++ rows_of on.along.to_come_lem) ≡ rows_of t.along.all
      row_fits : at + length (shortest k) + length (write_part (left_of s part)) ≤ length old

    ahead : Ahead
    ahead =
        let o = onward t.along (a_row r e).splits in
        let bytes : rows_of t.along.to_come_lem ≡ shortest k ++ (write_part (left_of s part) ++ rows_of o.along.to_come_lem) = ap rows_of o.split ∙ rows_row k (part_of s part) o.along.to_come_lem in
        let joined : (t.done ++ shortest k) ++ (write_part (left_of s part) ++ rows_of o.along.to_come_lem) ≡ rows_of t.along.all = append_assoc t.done (shortest k) _ ∙ rw (← bytes) t.joined in
        let long : length (rows_of t.along.all) ≡ length t.done + length (shortest k) + (length (write_part (left_of s part)) + length (rows_of o.along.to_come_lem)) = ap length (sym joined) ∙ simp length-append in
        record { on = o; row_is = joined; row_fits = omega (arith, long, t.so_far.next_is, t.room) }

    pub putting_number_room : at + length (shortest k) ≤ length new
    putting_number_room = omega (arith, ahead.row_fits, wrote_length t.so_far)

    module _ {mid : List ℕ} {text : ℕ} (w : Wrote new mid at text (shortest k)) where
      pub putting_part_room : FitsPart s part mid text
      putting_part_room = let p = a_row r e in record { inside = p.in_part; small = part_fits p.splits.value; room = omega (arith, ahead.row_fits, w.next_is, wrote_length w, wrote_length t.so_far) }

      pub putting_more : {after : List ℕ} {place : ℕ} {rest : Rows} → Wrote mid after text place (write_part (left_of s part)) → rest ≡ behind_at left next → Putting s begun old start after place rest
      putting_more v is =
          let a = ahead in
          let o = a.on in
          rw is (record {
            along = o.along;
            done = (t.done ++ shortest k) ++ write_part (left_of s part);
            so_far = wrote_join (wrote_join t.so_far w) v;
            joined = append_assoc (t.done ++ shortest k) (write_part (left_of s part)) (rows_of o.along.to_come_lem) ∙ rw o.same_all a.row_is;
            room = rw o.same_all t.room;
          })

pub putting_all : {n : ℕ} {s : List ℕ} {c : Cursor} {old : List ℕ} {start : ℕ} {new : List ℕ} {at : ℕ} {left : Rows} {x : RowStep} → Putting s (record { next = c; more = n }) old start new at left → RowSteps s left x → x ≡ None → Puts (rows sized n 0) rows_of s c old new start (record { at = at; next = left.next })
putting_all {x = x} t r h =
    let end = ended t.along (no_row r h) in
    let nothing : rows_of t.along.to_come_lem ≡ [] = rw (end.nothing, rows_nil) in
    let done_is : t.done ≡ rows_of t.along.all = sym (append-nil t.done) ∙ rw (← nothing) t.joined in
    record { value = t.along.all; stands = end.stands; wrote = rw done_is at t.so_far }

pub ruleset putting = (putting_none, putting_known, putting_all, putting_number_room, putting_part_room, putting_more, row_left, row_fewer, wrote_length, rules)

-- One group
module _ (k m : ℕ) {s : List ℕ} {c : Cursor} {old : List ℕ} {at : ℕ} (f : Fits (rows sized m 0) (group_of k) s c old at) where
  pub group_left_out : m ≡ 0 → Puts (rows sized m 0) (group_of k) s c old old at (record { at = at; next = c })
  group_left_out e =
      let w : Stands (rows sized 0 0) s c f.value f.next = rw e at f.stands in
      let nothing : group_of k f.value ≡ [] = rw (no_rows_lem sized 0 w) (group_nil k) in
      record { value = f.value; stands = rw (← no_way sized 0 w) at f.stands; wrote = rw nothing (wrote_nothing (omega (arith, f.room))) }

  module _ (h : m ≡ 0 → ⊥) where
    bytes : group_of k f.value ≡ shortest k ++ (shortest m ++ rows_of f.value)
    bytes = let count = rows_count m 0 f.stands in group_bytes k f.value (λ q. h (sym count ∙ q)) ∙ rw count

    long : length (group_of k f.value) ≡ length (shortest k) + (length (shortest m) + length (rows_of f.value))
    long = ap length bytes ∙ simp length-append

    pub group_index_room : at + length (shortest k) ≤ length old
    group_index_room = omega (arith, f.room, long)

    module _ {mid : List ℕ} {size : ℕ} (v : Wrote old mid at size (shortest k)) where
      pub group_count_room : size + length (shortest m) ≤ length mid
      group_count_room = omega (arith, f.room, long, v.next_is, wrote_length v)

      module _ {mid' : List ℕ} {from : ℕ} (w : Wrote mid mid' size from (shortest m)) where
        pub group_rows_room : Fits (rows sized m 0) rows_of s c mid' from
        group_rows_room = record { value = f.value; next = f.next; stands = f.stands; room = omega (arith, f.room, long, v.next_is, wrote_length v, w.next_is, wrote_length w) }

        pub group_put : {new : List ℕ} {r : Put} → Puts (rows sized m 0) rows_of s c mid' new from r → Puts (rows sized m 0) (group_of k) s c old new at r
        group_put p =
            let same : f.value ≡ p.value = one_value f.stands p.stands in
            record { value = f.value; stands = rw same p.stands; wrote = rw bytes (wrote_join v (wrote_join w (rw same p.wrote))) }

pub ruleset putting_group = (group_left_out, group_index_room, group_count_room, group_rows_room, group_put, wrote_length, rules)

-- Groups
pub record PuttingGroups (s : List ℕ) (begun : Rows) (old : List ℕ) (start : ℕ) (new : List ℕ) (at : ℕ) (left : Rows) : Type 0 where
  pub along : Along (table sized) s begun left
  pub done : List ℕ
  pub so_far : Wrote old new start at done
  pub joined : done ++ groups_of along.to_come_lem ≡ groups_of along.all
  pub room : start + length (groups_of along.all) ≤ length old

pub groups_none : {s : List ℕ} (begun : Rows) {old : List ℕ} {at : ℕ} → Fits (rows (table sized) begun.more 0) groups_of s begun.next old at → PuttingGroups s begun old at old at begun
groups_none begun f = record { along = setting_out f.stands; done = []; so_far = wrote_nothing (omega (arith, f.room)); joined = refl; room = f.room }

module _ {s : List ℕ} {begun : Rows} {old : List ℕ} {start : ℕ} {new : List ℕ} {at : ℕ} {left : Rows} (t : PuttingGroups s begun old start new at left) where
  pub groups_known : Known (rows (table sized) left.more 0) s left.next
  groups_known = still_known t.along

  module _ {x : GroupStep} {k : ℕ} {place : Cursor} (steps : GroupSteps s left x) (is : x ≡ Some (k, place)) where
    module _ {m : ℕ} {e : Cursor} (j : Stands number s place m e) where
      -- the group that is to be written, and what comes behind it
      group_ahead : {v : Table Part} {behind : Cursor} → Stands (rows sized m 0) s e v behind → Onward t.along k v (behind_at left behind)
      group_ahead w = onward t.along (group_passed steps is (rows_table sized j w))

      joined_ahead : {v : Table Part} {behind : Cursor} (w : Stands (rows sized m 0) s e v behind) → (t.done ++ group_of k v) ++ groups_of (group_ahead w).along.to_come_lem ≡ groups_of t.along.all
      joined_ahead {v} w =
          let o = group_ahead w in
          let split : groups_of t.along.to_come_lem ≡ group_of k v ++ groups_of o.along.to_come_lem = ap groups_of o.split ∙ groups_row k v o.along.to_come_lem in
          append_assoc t.done (group_of k v) (groups_of o.along.to_come_lem) ∙ rw (← split) t.joined

      pub groups_room : Fits (rows sized m 0) (group_of k) s e new at
      groups_room =
          let g = group_rows_known steps is j in
          let w = g.stands in
          let lengths : length t.done + length (group_of k g.value) + length (groups_of (group_ahead w).along.to_come_lem) ≡ length (groups_of t.along.all) = sym (simp length-append) ∙ ap length (joined_ahead w) in
          record { value = g.value; next = g.next; stands = w; room = omega (arith, lengths, t.room, t.so_far.next_is, wrote_length t.so_far) }

      pub groups_more : {after : List ℕ} {r : Put} {rest : Rows} → Puts (rows sized m 0) (group_of k) s e new after at r → rest ≡ behind_at left r.next → PuttingGroups s begun old start after r.at rest
      groups_more p q =
          let o = group_ahead p.stands in
          rw q (record {
            along = o.along;
            done = t.done ++ group_of k p.value;
            so_far = wrote_join t.so_far p.wrote;
            joined = rw o.same_all (joined_ahead p.stands);
            room = rw o.same_all t.room;
          })

pub groups_all : {n : ℕ} {s : List ℕ} {c : Cursor} {old : List ℕ} {start : ℕ} {new : List ℕ} {at : ℕ} {left : Rows} {x : GroupStep} → PuttingGroups s (record { next = c; more = n }) old start new at left → GroupSteps s left x → x ≡ None → Puts (rows (table sized) n 0) groups_of s c old new start (record { at = at; next = left.next })
groups_all {x = x} t r h =
    let end = ended t.along (no_group r h) in
    let nothing : groups_of t.along.to_come_lem ≡ [] = rw (end.nothing, groups_nil) in
    let done_is : t.done ≡ groups_of t.along.all = sym (append-nil t.done) ∙ rw (← nothing) t.joined in
    record { value = t.along.all; stands = end.stands; wrote = rw done_is at t.so_far }

pub ruleset putting_groups = (groups_none, groups_known, groups_all, group_count_known, groups_room, groups_more, group_left, group_fewer, wrote_length, rules)
