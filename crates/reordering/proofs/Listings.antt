-- A payload listed: refused, or its entries stand where it begins, and their rows are put, or one of the lists is too short.
use Rattle.std.specs.Prelude.{Ok, Err, Some}
use Prim.Native.Nat.{ℕ, ◌+◌, ◌^◌, ◌<◌}
use mathlib.Core.Bool.{Bool, true, false, ◌&&◌}
use mathlib.Core.List.{List, [], ◌∷◌}
use mathlib.Core.Option.{some}
use mathlib.Core.Path.{◌≡◌, refl, sym, ap, ◌∙◌}
use native.Mathlib.Nat.{zero-add}
use borrow.Author.Rules.{rules}
use lib.Dec.{leb}
use lib.ListN.{length}
use Rattle.format.specs.Entries.{Listed, group_rows, older_rows, older_columns, fit_each, Lists}
use Rattle.format.specs.Numbers.{number}
use Rattle.format.specs.Older.{OlderEntry, times, older_entry, judge_older, sorted_from}
use Rattle.format.specs.Reading.{accepted, verdict}
use Rattle.format.specs.Tables.{nil}
use Rattle.format.specs.Verdicts.{verdict_of}
use Rattle.format.proofs.Laws.Entries.{lists_refused, lists_short}
use Rattle.format.specs.Returned.{Answer}
use Rattle.format.specs.declared.Hint.{Hint}
use Rattle.format.specs.declared.Reason.TheVariants.{OutputTooShort}
use Rattle.format.specs.declared.Refusal.{Refusal}
use Rattle.format.specs.Returned.{Verdict}
use Rattle.in_order.specs.Rows.{entries_rows, SurveysRows, FitsRows, PutsAll}
use Rattle.in_order.proofs.InOrder.{in_order_rows}
use Rattle.in_order.specs.declared.rows.RowSurvey.{RowSurvey}
use Rattle.out_of_order.specs.Gathering.{entries_here}
use Rattle.out_of_order.specs.Rows.{rows_here, ReadyList}
use Rattle.out_of_order.proofs.Sources.{Source, source}
use Rattle.reading.proofs.Standing.{one_value}
use Rattle.reading.specs.Cursors.{over_all}
use Rattle.reading.specs.Standing.{Stands, Known}
use Rattle.reading.specs.declared.Cursor.{Cursor}
use Rattle.writing.specs.Columns.{Room, Columns}
use Rattle.writing.proofs.Columns.{room_there, lists_all}
use Rattle.reordering.proofs.Entries.{windowed, unordered_ready}
use Rattle.reordering.proofs.Payloads.{payload_count, payload_entries, listed, not_accepted, was_accepted, accepted_stands, older_known}
use Rattle.reordering.specs.Listed.{RisingRows, CountedRows, ListsEntries, ListsOlder}

-- The room, as the definition has it
and_last : (x y z : Bool) → (x && y) && z ≡ x && (y && (z && true))
and_last true true true = refl
and_last true true false = refl
and_last true false z = refl
and_last false y z = refl

module _ (fs os ks : List ℕ) (rows : ℕ) {fit : Bool} (told : fit ≡ (leb rows (length fs) && leb rows (length os)) && leb rows (length ks)) where
  fit_told : fit_each rows (fs ∷ os ∷ ks ∷ []) ≡ fit
  unfolding fit_each
  fit_told = sym (told ∙ and_last (leb rows (length fs)) (leb rows (length os)) (leb rows (length ks)))

  room_told : fit ≡ true → Room rows (fs ∷ os ∷ ks ∷ [])
  room_told e = room_there rows (fs ∷ os ∷ ks ∷ []) (fit_told ∙ e)

-- 13, or all rows
module _ {es : List (Listed Hint)} {rows : ℕ} (many : rows ≡ length es) {fs os ks : List ℕ} {fit : Bool} (told : fit ≡ (leb rows (length fs) && leb rows (length os)) && leb rows (length ks)) where
  rows_short : fit ≡ false → {r : Answer} → r ≡ Err (record { reason = OutputTooShort; offset = record { 0 = rows } }) → Lists older_columns (accepted (some es)) (fs ∷ os ∷ ks ∷ []) (fs ∷ os ∷ ks ∷ []) r
  rows_short e q = rw (q, many) (lists_short refl (rw many at (fit_told fs os ks rows told) ∙ e))

  rows_all : fit ≡ true → {r : Answer} → r ≡ Ok (Some (record { offset = record { 0 = 0 }; length = rows })) → {lists : List (List ℕ)} → Columns es 0 rows older_columns (fs ∷ os ∷ ks ∷ []) lists → Lists older_columns (accepted (some es)) (fs ∷ os ∷ ks ∷ []) lists r
  rows_all e q w = rw q (lists_all refl many (room_told fs os ks rows told e) w)

-- In order
module _ {n : ℕ} {s : List ℕ} {c : Cursor} {rows : ℕ} (ready : RisingRows n s c rows) where
  abbrev es : List OlderEntry
  es = ready.value

  its_rows : group_rows (sorted_from nil es) ≡ entries_rows es
  its_rows = in_order_rows es ready.in_order

  its_many : rows ≡ length (group_rows (sorted_from nil es))
  its_many = ready.many ∙ ap length (sym its_rows)

  module _ {fs os ks : List ℕ} {fit : Bool} (told : fit ≡ (leb rows (length fs) && leb rows (length os)) && leb rows (length ks)) where
    pub rising_short : fit ≡ false → {r : Answer} → r ≡ Err (record { reason = OutputTooShort; offset = record { 0 = rows } }) → ListsEntries n s c (fs ∷ os ∷ ks ∷ []) (fs ∷ os ∷ ks ∷ []) r
    rising_short e q = record { value = es; next = ready.next; stands = ready.stands; listing = rows_short its_many told e q }

    module _ (e : fit ≡ true) where
      pub rising_room : FitsRows (times older_entry n) entries_rows s c (fs ∷ os ∷ ks ∷ []) 0
      rising_room =
          let room : rows ≡ 0 + length (entries_rows es) = ready.many ∙ sym (zero-add (length (entries_rows es))) in
          record { value = es; next = ready.next; stands = ready.stands; room = rw room at (room_told fs os ks rows told e) }

      pub rising_put : {lists : List (List ℕ)} → PutsAll n s c (fs ∷ os ∷ ks ∷ []) lists → {r : Answer} → r ≡ Ok (Some (record { offset = record { 0 = 0 }; length = rows })) → ListsEntries n s c (fs ∷ os ∷ ks ∷ []) lists r
      rising_put {lists} p q =
          let same : p.value ≡ es = one_value p.stands ready.stands in
          let its : Columns (entries_rows es) 0 (length (entries_rows es)) older_columns (fs ∷ os ∷ ks ∷ []) lists = rw (← same) p.put in
          let put : Columns (group_rows (sorted_from nil es)) 0 rows older_columns (fs ∷ os ∷ ks ∷ []) lists = rw its_rows (rw (← ready.many) at its) in
          record { value = es; next = ready.next; stands = ready.stands; listing = rows_all its_many told e q put }

pub ruleset rising_lists = (rising_short, rising_room, rising_put, rules)

-- In any order
pub rows_counted : (n : ℕ) {s : List ℕ} {c : Cursor} {rows : ℕ} {keys orders : List ℕ} → Known (times older_entry n) s c → c.end < 2 ^ 64 → rows ≡ length (rows_here n s c) → length keys ≡ 2048 → length orders ≡ 2048 → CountedRows n s c rows keys orders
rows_counted n known far many k o = record { known = known; far = far; many = many; window = windowed k o }

pub ruleset unordered_lists = (unordered_ready, rows_counted, rules)

module _ {n : ℕ} {s : List ℕ} {c : Cursor} {rows : ℕ} {keys orders : List ℕ} (ready : CountedRows n s c rows keys orders) where
  rows_are : rows_here n s c ≡ group_rows (sorted_from nil (entries_here n s c))
  unfolding rows_here
  rows_are = refl

  here_many : rows ≡ length (group_rows (sorted_from nil (entries_here n s c)))
  here_many = ready.many ∙ ap length rows_are

  src : Source n s c
  src = source n ready.far ready.known

  module _ {fs os ks : List ℕ} {fit : Bool} (told : fit ≡ (leb rows (length fs) && leb rows (length os)) && leb rows (length ks)) where
    pub counted_room : fit ≡ true → ReadyList (fs ∷ os ∷ ks ∷ []) rows keys orders n s c
    counted_room e = record { known = ready.known; window = ready.window; whole = ready.many; fits = room_told fs os ks rows told e }

    module _ {r : Answer} where
      pub counted_short : fit ≡ false → r ≡ Err (record { reason = OutputTooShort; offset = record { 0 = rows } }) → ListsEntries n s c (fs ∷ os ∷ ks ∷ []) (fs ∷ os ∷ ks ∷ []) r
      counted_short e q = record { value = entries_here n s c; next = src.last; stands = src.stands; listing = rows_short here_many told e q }

      pub counted_put : fit ≡ true → {lists : List (List ℕ)} → Columns (rows_here n s c) 0 rows older_columns (fs ∷ os ∷ ks ∷ []) lists → r ≡ Ok (Some (record { offset = record { 0 = 0 }; length = rows })) → ListsEntries n s c (fs ∷ os ∷ ks ∷ []) lists r
      counted_put e p q = record { value = entries_here n s c; next = src.last; stands = src.stands; listing = rows_all here_many told e q (rw rows_are at p) }

pub ruleset counted_lists = (counted_room, counted_short, counted_put, rules)

-- A payload: its count, and its entries
module _ {s : List ℕ} {c : Cursor} {n : ℕ} {d : Cursor} (count : Stands number s c n d) where
  pub payload_rising : {found : RowSurvey} → SurveysRows n s d found → found.rising ≡ true → RisingRows n s d found.rows
  payload_rising w e = record { value = w.value; next = _; stands = w.stands; in_order = sym w.order ∙ e; many = w.many }

  pub payload_listed : {lists lists' : List (List ℕ)} {r : Answer} → ListsEntries n s d lists lists' r → ListsOlder s c lists lists' r
  payload_listed w = record { value = w.value; next = w.next; stands = listed count w.stands; listing = w.listing }

pub ruleset payload_lists = (payload_count, payload_entries, payload_rising, payload_listed, rules)

-- A payload that was judged
module _ (p : List ℕ) (j : Verdict) (says : verdict_of j ≡ verdict (judge_older 0 p)) where
  pub list_refused : {r : Refusal} → j ≡ Err r → {lists : List (List ℕ)} → Lists older_columns (older_rows p) lists lists (Err r)
  unfolding older_rows
  list_refused e = lists_refused (rw (not_accepted p j says e))

  pub list_whole : j ≡ Ok tt → {c : Cursor} → c ≡ over_all p → {lists lists' : List (List ℕ)} {r : Answer} → ListsOlder p c lists lists' r → Lists older_columns (older_rows p) lists lists' r
  unfolding older_rows
  list_whole h over w =
      let a = was_accepted p j says h in
      let (next, there) = accepted_stands a in
      let one : a.value ≡ w.value = one_value there (rw over at w.stands) in
      rw (a.judged, one) w.listing

pub ruleset judgement_lists = (list_refused, older_known, list_whole, rules)
