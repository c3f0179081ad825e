-- The loops that search a table's rows: what is held so far, and what the rows left will add. Both loops are one: a row's value is an item or a table, and `answer` is what it answers.
use Rattle.std.specs.Prelude.{Ok, Err, Some, None}
use Prim.Native.Nat.{ℕ, ◌+◌, ◌-◌, ◌≤◌, ◌<◌}
use mathlib.Core.Bool.{Bool, cond}
use mathlib.Core.List.{List}
use mathlib.Core.Option.{Option, none, some}
use mathlib.Core.Path.{◌≡◌, refl, sym, ◌∙◌}
use native.Mathlib.Numerals.{add-one}
use native.Mathlib.Omega.{arith}
use borrow.Author.Rules.{rules}
use borrow.Author.Tests.{eq-eqb, ne_eqb}
use lib.Dec.{eqb}
use Rattle.format.specs.Reading.{got, Reader, and_then}
use Rattle.format.specs.Parts.{Part}
use Rattle.format.specs.Tables.{rows, table}
use Rattle.format.specs.Options.{or_else}
use Rattle.format.specs.Laws.Outcomes.{by_test}
use Rattle.format.specs.declared.Refusal.{Refusal}
use Rattle.reading.specs.Cursors.{Inside, left, NumberReads}
use Rattle.reading.specs.declared.Cursor.{Cursor}
use Rattle.reading.specs.Returned.{NumberRead}
use Rattle.reading.proofs.Laws.{number_means, number_inside, number_end}
use Rattle.tables.specs.Seeking.{wanted_in, sought, sought_within, seek_outcome, SeekEnd, SeekAhead, Seeks}
use Rattle.tables.specs.Steps.{passing, sought_rows, held_of, HeldEnd, RowReads, kept_of}
use Rattle.tables.specs.declared.Wanted.{Wanted}
use Rattle.tables.specs.Returned.{Seek}
use Rattle.tables.specs.Returned.{Held}
use Rattle.tables.specs.Returned.{RowRead}
use Rattle.tables.proofs.Rows.{then_some, seek, seek_behind, turn, turned}

-- What is held once a row was passed, and what is found at the end
module _ {held : Held} where
  module _ (key k : ℕ) (answer : Held) where
    pub kept_held : {part : Cursor} → held ≡ Some part → Some part ≡ kept_of held key k answer
    kept_held e = rw e

    pub kept_hit : held ≡ None → key ≡ k → answer ≡ kept_of held key k answer
    kept_hit e q = rw (e, eq-eqb key k q)

    pub kept_miss : held ≡ None → (key ≡ k → ⊥) → None ≡ kept_of held key k answer
    kept_miss e q = rw (e, ne_eqb key k q)

pub ruleset held_steps = (kept_held, kept_hit, kept_miss, rules)

kept_is : (s : List ℕ) (held : Held) (key k : ℕ) (answer : Held) → or_else (held_of s held) (cond (eqb key k) (held_of s answer) none) ≡ held_of s (kept_of held key k answer)
kept_is s (Some part) key k answer = refl
kept_is s None key k answer = by_test (eqb key k) (λ e. rw e) (λ e. rw e)

kept_end : (end : ℕ) (held : Held) (key k : ℕ) (answer : Held) → HeldEnd end held → HeldEnd end answer → HeldEnd end (kept_of held key k answer)
kept_end end (Some part) key k answer h a = h
kept_end end None key k answer h a = by_test (eqb key k) (λ e. rw e a) (λ e. rw e h)

ended_is : (s : List ℕ) (held : Held) (next : Cursor) → seek_outcome s (Ok (held, next)) ≡ got (held_of s held) next.at (left s next)
ended_is s None next = refl
ended_is s (Some part) next = refl

ended_end : (held : Held) (next : Cursor) (end : ℕ) → HeldEnd end held → next.end ≡ end → SeekEnd end (Ok (held, next))
ended_end None next end h q = q
ended_end (Some part) next end h q = (h.0, h.1, q)

ended_ahead : (held : Held) (next : Cursor) (end : ℕ) → next.at ≤ end → SeekAhead end (Ok (held, next))
ended_ahead None next end h = h
ended_ahead (Some part) next end h = h

-- whenever the loop's test is reached
pub record Turn {A : Type 0} (value : Reader A) (answer : A → Option Part) (key n : ℕ) (s : List ℕ) (c next : Cursor) (least more : ℕ) (held : Held) : Type 0 where
  pub inside : Inside s next
  pub same_end : next.end ≡ c.end
  pub holds : HeldEnd c.end held
  pub same : sought_rows value answer key n c.at (left s c) ≡ seek answer key (held_of s held) (rows value more least next.at (left s next))

module _ {A : Type 0} {value : Reader A} {answer : A → Option Part} {key n : ℕ} {s : List ℕ} {c : Cursor} where
  pub turn_begins : Inside s c → Turn value answer key n s c c 0 n None
  unfolding sought_rows
  turn_begins i = record { inside = i; same_end = refl; holds = tt; same = refl }

  module _ {next : Cursor} {least more : ℕ} {held : Held} (t : Turn value answer key n s c next least more held) where
    -- the next row, and those behind it
    opened : 0 < more → sought_rows value answer key n c.at (left s c) ≡ and_then (passing value answer least next.at (left s next)) (seek_behind answer key value (held_of s held) (more - 1))
    opened h = t.same ∙ turn answer key value (held_of s held) more least next.at (left s next) h

    pub turn_refused : {x : RowRead} {r : Refusal} → 0 < more → RowReads value answer least s next x → x ≡ Err r → Seeks (sought_rows value answer key n) s c (Err r)
    turn_refused h n e = record { means = sym (opened h ∙ rw (← rw e at n.means)); same_part = tt; ahead = tt }

    pub turn_row : {x : RowRead} {k : ℕ} {found : Held} {after : Cursor} {h : Held} → 0 < more → RowReads value answer least s next x → x ≡ Ok (k, found, after) → h ≡ kept_of held key k found → Turn value answer key n s c after (k + 1) (more - 1) h
    turn_row {k = k} {found} {after} l n e q =
        let same = rw e at n.same_part in
        let far = t.same_end in
        record {
          inside = record { ahead = omega (arith, same.1, same.2); within = omega (arith, same.2, t.inside.within) };
          same_end = same.2 ∙ far;
          holds = rw q (kept_end c.end held key k found t.holds (rw far at same.0));
          same = opened l ∙ rw (← rw e at n.means, kept_is s held key k found, q, add-one);
        }

    pub turn_ends : more ≤ 0 → Seeks (sought_rows value answer key n) s c (Ok (held, next))
    turn_ends h =
        let far = t.same_end in
        record {
          means = ended_is s held next ∙ sym (t.same ∙ turned answer key value (held_of s held) more least next.at (left s next) h);
          same_part = ended_end held next c.end t.holds far;
          ahead = ended_ahead held next c.end (omega (arith, t.inside.ahead));
        }

pub ruleset turns = (turn_begins, turn_refused, turn_row, turn_ends, rules)

-- A table: how many rows it has, and the rows
module _ {s : List ℕ} {c : Cursor} {x : NumberRead} where
  module _ (value : Reader Part) (wanted : Wanted) where
    pub table_no_count : {r : Refusal} → NumberReads s c x → x ≡ Err r → Seeks (sought value wanted) s c (Err r)
    unfolding sought table
    table_no_count n e = record { means = rw (← rw e at n.means); same_part = tt; ahead = tt }

    pub table_counted : {m : ℕ} {d : Cursor} {told : Bool} {y : Seek} → NumberReads s c x → x ≡ Ok (m, d, told) → Seeks (sought_rows value some wanted.0 m) s d y → Seeks (sought value wanted) s c y
    unfolding sought table sought_rows
    table_counted n e r = let far = number_end n e in record { means = r.means ∙ rw (number_means n e) (simp then_some); same_part = rw (← far) r.same_part; ahead = rw (← far) r.ahead }

  module _ (value : Reader Part) (wanted inner : Wanted) where
    pub tables_no_count : {r : Refusal} → NumberReads s c x → x ≡ Err r → Seeks (sought_within value wanted inner) s c (Err r)
    unfolding sought_within table
    tables_no_count n e = record { means = rw (← rw e at n.means); same_part = tt; ahead = tt }

    pub tables_counted : {m : ℕ} {d : Cursor} {told : Bool} {y : Seek} → NumberReads s c x → x ≡ Ok (m, d, told) → Seeks (sought_rows (table value) (wanted_in inner) wanted.0 m) s d y → Seeks (sought_within value wanted inner) s c y
    unfolding sought_within table sought_rows
    tables_counted n e r = let far = number_end n e in record { means = r.means ∙ rw (number_means n e); same_part = rw (← far) r.same_part; ahead = rw (← far) r.ahead }

pub ruleset table_steps = (table_no_count, table_counted, tables_no_count, tables_counted, number_inside, rules)
