-- A metadata payload: judged, and listed from its beginning on.
use Rattle.std.specs.Prelude.{Ok, Err}
use Prim.Native.Nat.{ℕ}
use mathlib.Core.List.{List, []}
use mathlib.Core.Path.{◌≡◌, refl}
use borrow.Author.Rules.{rules}
use Rattle.format.specs.Entries.{Listed, group_rows, item_rows, Lists}
use Rattle.format.proofs.Laws.Entries.{lists_refused}
use Rattle.format.specs.Laws.Laxer.{Laxer, any_laxer, hint_laxer, table_laxer}
use Rattle.format.specs.Laws.Outcomes.{judged, in_turn, ended}
use Rattle.format.proofs.Laws.Passing.{sized_passes}
use Rattle.format.specs.Metadata.{any_item, hint_item, metadata, judge_metadata}
use Rattle.format.specs.Parts.{Part, sized}
use Rattle.format.specs.Reading.{got, Reader, filling, accepted, verdict}
use Rattle.format.specs.Tables.{Table, table}
use Rattle.format.specs.Verdicts.{verdict_of}
use Rattle.format.specs.Returned.{Answer}
use Rattle.format.specs.declared.Refusal.{Refusal}
use Rattle.format.specs.Returned.{Verdict}
use Rattle.format.proofs.Tags.{judged_refused, judged_accepted}
use Rattle.reading.specs.Cursors.{left, over_all}
use Rattle.reading.specs.Standing.{Stands}
use Rattle.reading.specs.declared.Cursor.{Cursor}
use Rattle.reading.proofs.Laws.{left_all, over_inside}
use Rattle.reading.proofs.Standing.{stand, one_value}
use Rattle.tables.proofs.Accepted.{table_passable}
use Rattle.entries.specs.Listing.{KnownAll, ListsRows}
use Rattle.entries.specs.Putting.{AnyPart, OneByte}
use Rattle.entries.proofs.HintLaws.{hints_give}
use Rattle.entries.proofs.MapLaws.{any_held}

-- what is read of all bytes is read at the cursor over them
from_start : {A : Type 0} (read : Reader A) (p : List ℕ) {c : Cursor} {v : A} {o : ℕ} {rest : List ℕ} → c ≡ over_all p → read 0 p ≡ got v o rest → read c.at (left p c) ≡ got v o rest
from_start read p over e = rw (over, left_all p) e

module _ (item : Reader Part) (p : List ℕ) (v : Verdict) (says : verdict_of v ≡ verdict (judge_metadata item 0 p)) where
  pub items_refused : {columns : List (Listed Part → ℕ)} {lists : List (List ℕ)} {r : Refusal} → v ≡ Err r → Lists columns (item_rows item p) lists lists (Err r)
  unfolding item_rows
  items_refused e = lists_refused (rw (judged_refused v (judge_metadata item 0 p) says e) refl)

  module _ (h : v ≡ Ok tt) {c : Cursor} (over : c ≡ over_all p) where
    -- what was accepted, where it was read and where it stands without its checks
    record There : Type 0 where
      value : Table (Table Part)
      accepts : judge_metadata item 0 p ≡ accepted value
      end : ℕ
      reads : table (table item) 0 p ≡ got value end []

    there : There
    unfolding judge_metadata metadata
    there =
        let (t, e) = judged_accepted v (judge_metadata item 0 p) says h in
        judged (filling (table (table item)) 0 p) e λ o rest r.
        in_turn (table (table item) 0 p) _ r λ a o₁ r₁ e₁ e₂. ended a o₁ r₁ e₂ λ n q.
        record { value = t; accepts = e; end = o₁; reads = rw (n, q) at e₁ }

    module _ (l : Laxer item sized) where
      items_stand : Stands (table (table sized)) p c there.value (record { at = there.end; end = c.end })
      items_stand =
          let lax = (table_laxer (table_laxer l)).reads 0 p there.value there.end [] there.reads in
          stand (table_passable (table_passable sized_passes)) (over_inside over) (from_start (table (table sized)) p over lax)

      pub items_there : {columns : List (Listed Part → ℕ)} {lists lists' : List (List ℕ)} {r : Answer} → ListsRows (table (table sized)) group_rows columns p c lists lists' r → Lists columns (item_rows item p) lists lists' r
      unfolding item_rows
      items_there w =
          let same : w.value ≡ there.value = one_value w.stands items_stand in
          rw (there.accepts, ← same) w.its_lists

module _ (p : List ℕ) (v : Verdict) {c : Cursor} (over : c ≡ over_all p) (h : v ≡ Ok tt) where
  pub any_there : verdict_of v ≡ verdict (judge_metadata any_item 0 p) → KnownAll AnyPart p c
  any_there says = any_held (record { value = _; next = _; stands = items_stand any_item p v says h over any_laxer })

  pub hints_there : verdict_of v ≡ verdict (judge_metadata hint_item 0 p) → KnownAll OneByte p c
  hints_there says =
      let t = there hint_item p v says h over in
      record { value = _; next = _; stands = items_stand hint_item p v says h over hint_laxer; every = hints_give.gives 0 p t.value t.end [] t.reads }

pub ruleset items_listed = (items_refused, items_there, any_there, hints_there, any_laxer, hint_laxer, over_inside, rules)
