-- Telling whether lists are canonical, step by step: an item, a row, the rows one after the other, and a list.
use Rattle.std.specs.Prelude.{Ok, Err, Some, None}
use Prim.Native.Nat.{ℕ, suc, ◌+◌, ◌-◌, ◌≤◌, ◌<◌}
use mathlib.Core.Bool.{Bool, true, false}
use mathlib.Core.List.{List, []}
use mathlib.Core.Option.{Option}
use mathlib.Core.Path.{◌≡◌, refl, sym, ap, ◌∙◌}
use native.Mathlib.Numerals.{add-one}
use native.Mathlib.Omega.{arith}
use borrow.Author.Rules.{rules}
use borrow.Author.Tests.{eqb-true, eqb-false}
use lib.Dec.{leb, eqb}
use lib.Seq.{slice_empty, slice-cons}
use Rattle.format.specs.Reading.{got, stop, Reader}
use Rattle.format.specs.Numbers.{number, shortest}
use Rattle.format.specs.Parts.{sized}
use Rattle.format.specs.Tables.{rows, table}
use Rattle.format.specs.Forms.{behind, no, told, told_end, is_yes, part_form, rows_form, table_form}
use Rattle.format.specs.Telling.{as_few}
use Rattle.format.specs.Laws.Outcomes.{not_got, by_test, by_outcome}
use Rattle.format.proofs.Laws.Codecs.{name_codec, any_codec, hint_codec}
use Rattle.format.proofs.Laws.Telling.{Shorter, part_shorter, rows_told_end, rows_told_padded, rows_told_no, rows_told_on, table_shorter, table_told_none, table_told_empty, table_told_padded, table_told_rows}
use Rattle.format.specs.declared.Refusal.{Refusal}
use Rattle.reading.specs.Cursors.{Inside, left, NumberReads, PartReads}
use Rattle.reading.specs.declared.Cursor.{Cursor}
use Rattle.reading.specs.Returned.{NumberRead}
use Rattle.reading.specs.Returned.{PartRead}
use Rattle.reading.proofs.Laws.{number_means, number_tells, number_end, number_inside}
use Rattle.tables.specs.Seeking.{reader_of, is_item}
use Rattle.tables.specs.Steps.{is_short, index_from, IndexReads}
use Rattle.tables.specs.Telling.{Tells, is_filled, TellsRows, rows_at, RowTells}
use Rattle.tables.specs.declared.Item.{Item}
use Rattle.tables.specs.declared.Item.TheVariants.{Name, Data, Hint}
use Rattle.tables.specs.Returned.{Tidy}
use Rattle.tables.specs.Returned.{TidyRow}
use Rattle.tables.proofs.Hints.{value_short}
use Rattle.tables.proofs.Laws.{item_behind}
use Rattle.tables.proofs.RowSteps.{value_refused, value_taken, value_not, part_inside, index_number, index_above, index_end, index_inside}

-- The form of an item is never longer than the item
pub items_shorter : (item : Item) → Shorter (reader_of item) part_form
items_shorter Name = part_shorter name_codec
items_shorter Data = part_shorter any_codec
items_shorter Hint = part_shorter hint_codec

-- An item
module _ (item : Item) {s : List ℕ} {c : Cursor} where
  pub part_refused : {r : Refusal} → PartReads (reader_of item) s c (Err r) → Tells (reader_of item) part_form s c None
  part_refused n = record { means = rw (← n.means); same_part = tt }

  pub part_padded : {part next : Cursor} {t : Bool} → PartReads (reader_of item) s c (Ok (part, next, t)) → t ≡ false → Tells (reader_of item) part_form s c None
  unfolding part_form
  part_padded n e = record { means = rw (← n.means, ← n.tells, e); same_part = tt }

  pub part_tidy : {part next : Cursor} {t : Bool} → Inside s c → PartReads (reader_of item) s c (Ok (part, next, t)) → t ≡ true → Tells (reader_of item) part_form s c (Some next)
  unfolding part_form
  part_tidy i n e =
      let b = item_behind item i n refl in
      record { means = rw (← n.means, ← n.tells, e); same_part = (omega (arith, b.in_rest.ahead, b.same_end), b.same_end) }

  pub item_short : {b : Bool} → Inside s c → b ≡ is_short item (left s c) → b ≡ true → Tells (reader_of item) part_form s c (Some (record { at = c.at + 2; end = c.end }))
  item_short i q t = let d : c.at + 1 + 1 ≡ c.at + 2 = omega arith in rw d at (part_tidy i (value_short i item q t) refl)

  module _ {x : PartRead} (n : PartReads sized s c x) where
    pub item_refused : {r : Refusal} → x ≡ Err r → Tells (reader_of item) part_form s c None
    item_refused e = part_refused (value_refused n item e)

    module _ {part next : Cursor} {t : Bool} (e : x ≡ Ok (part, next, t)) where
      pub item_other : {b : Bool} → b ≡ is_item item (left s part) → b ≡ false → Tells (reader_of item) part_form s c None
      item_other q f = part_refused (value_not n e item q f refl)

      pub item_padded : t ≡ false → Tells (reader_of item) part_form s c None
      item_padded f = by_test (is_item item (left s part)) (λ g. part_padded (value_taken n e item (sym g) refl) f) (λ g. item_other (sym g) refl)

      pub item_tidy : {b : Bool} → Inside s c → t ≡ true → b ≡ is_item item (left s part) → b ≡ true → Tells (reader_of item) part_form s c (Some next)
      item_tidy i f q g = part_tidy i (value_taken n e item q g) f

pub ruleset tidy_items = (item_short, item_refused, item_padded, item_other, item_tidy, part_inside, rules)

-- A row
module _ {A : Type 0} (read : Reader A) (form_of : A → Option (List ℕ)) where
  -- where its number stops, the rows do
  stopped : (n least o : ℕ) (bs : List ℕ) {m at : ℕ} → index_from least o bs ≡ stop m at → told (rows_form form_of) bs (rows read (suc n) least o bs) ≡ no
  unfolding index_from rows
  stopped n least o bs e =
      by_outcome (number o bs)
      (λ k o₁ r₁ e₁. by_test (leb least k) (λ t. absurd (not_got (sym (rw (e₁, t) at e)))) (λ t. rw (e₁, t)))
      (λ m at e₁. rw e₁)

  pub row_no_number : {least : ℕ} {s : List ℕ} {c : Cursor} {x : NumberRead} → IndexReads least s c x → {r : Refusal} → x ≡ Err r → RowTells read form_of least s c None
  row_no_number {least} {s} {c} {x} n e = record { means = λ m. stopped m least c.at (left s c) (sym (rw e at n.means)); same_part = tt }

module _ {A : Type 0} {read : Reader A} {form_of : A → Option (List ℕ)} (short : Shorter read form_of) {least k : ℕ} {s : List ℕ} {c d : Cursor} {x : NumberRead} {t : Bool} (n : IndexReads least s c x) (e : x ≡ Ok (k, d, t)) where
  is_number : number c.at (left s c) ≡ got k d.at (left s d)
  is_number = number_means (index_number n e) refl

  told_so : t ≡ as_few (shortest k) (left s d) (left s c)
  told_so = number_tells (index_number n e) refl

  row_padded : t ≡ false → RowTells read form_of least s c None
  row_padded f = record { means = λ m. rows_told_padded short m least c.at (left s c) is_number (sym told_so ∙ f); same_part = tt }

  row_tidy : {next : Cursor} → t ≡ true → Tells read form_of s d (Some next) → RowTells read form_of least s c (Some (k, next))
  row_tidy f v =
      let end = index_end n e in
      let far = v.same_part in
      record { means = λ m. rows_told_on short m least c.at (left s c) is_number (sym told_so ∙ f) (index_above n e) (sym v.means); same_part = (omega (arith, far.0), far.1 ∙ end) }

  row_not : Tells read form_of s d None → RowTells read form_of least s c None
  row_not v = record { means = λ m. rows_told_no short m least c.at (left s c) is_number (sym v.means); same_part = tt }

-- whose value is an item, or a list
module _ (item : Item) {least k : ℕ} {s : List ℕ} {c d : Cursor} {x : NumberRead} {t : Bool} (n : IndexReads least s c x) (e : x ≡ Ok (k, d, t)) where
  pub item_row_padded : t ≡ false → RowTells (reader_of item) part_form least s c None
  item_row_padded f = row_padded (items_shorter item) n e f

  pub item_row : {y : Tidy} {next : Cursor} → t ≡ true → Tells (reader_of item) part_form s d y → y ≡ Some next → RowTells (reader_of item) part_form least s c (Some (k, next))
  item_row f v q = row_tidy (items_shorter item) n e f (rw q at v)

  pub item_row_not : {y : Tidy} → Tells (reader_of item) part_form s d y → y ≡ None → RowTells (reader_of item) part_form least s c None
  item_row_not {y} v h = row_not (items_shorter item) n e (rw h at v)

  pub list_row_padded : t ≡ false → RowTells (table (reader_of item)) (table_form part_form) least s c None
  list_row_padded f = row_padded (table_shorter (items_shorter item)) n e f

  pub list_row : {y : Tidy} {next : Cursor} → t ≡ true → Tells (table (reader_of item)) (table_form part_form) s d y → y ≡ Some next → RowTells (table (reader_of item)) (table_form part_form) least s c (Some (k, next))
  list_row f v q = row_tidy (table_shorter (items_shorter item)) n e f (rw q at v)

  pub list_row_not : {y : Tidy} → Tells (table (reader_of item)) (table_form part_form) s d y → y ≡ None → RowTells (table (reader_of item)) (table_form part_form) least s c None
  list_row_not {y} v h = row_not (table_shorter (items_shorter item)) n e (rw h at v)

pub ruleset tidy_rows_one = (row_no_number, item_row_padded, item_row, item_row_not, index_inside, rules)

pub ruleset tidy_groups_one = (row_no_number, list_row_padded, list_row, list_row_not, index_inside, rules)

-- Rows, one after the other: whenever the loop is reached
pub record Turn {A : Type 0} (read : Reader A) (form_of : A → Option (List ℕ)) (n : ℕ) (s : List ℕ) (c next : Cursor) (least more : ℕ) : Type 0 where
  pub inside : Inside s next
  pub same_end : next.end ≡ c.end
  pub same : rows_at read form_of n 0 s c ≡ rows_at read form_of more least s next

module _ {A : Type 0} {read : Reader A} {form_of : A → Option (List ℕ)} {n : ℕ} {s : List ℕ} {c : Cursor} where
  pub turn_begins : Inside s c → Turn read form_of n s c c 0 n
  turn_begins i = record { inside = i; same_end = refl; same = refl }

  module _ {next : Cursor} {least more : ℕ} {x : TidyRow} (t : Turn read form_of n s c next least more) (p : RowTells read form_of least s next x) (h : 0 < more) where
    one_more : more ≡ suc (more - 1)
    one_more = omega arith

    pub turn_not : x ≡ None → TellsRows read form_of n s c None
    turn_not z = record { means = sym (t.same ∙ rw one_more (rw z at p.means (more - 1))); same_part = tt }

    pub turn_row : {k : ℕ} {after : Cursor} → x ≡ Some (k, after) → Turn read form_of n s c after (k + 1) (more - 1)
    turn_row e =
        let far = rw e at p.same_part in
        record {
          inside = record { ahead = omega (arith, far.0, far.1); within = omega (arith, far.1, t.inside.within) };
          same_end = far.1 ∙ t.same_end;
          same = t.same ∙ ap (λ m. rows_at read form_of m least s next) one_more ∙ rw add-one (rw e at p.means (more - 1));
        }

pub turn_ends : {A : Type 0} {read : Reader A} {form_of : A → Option (List ℕ)} → Shorter read form_of → {n : ℕ} {s : List ℕ} {c next : Cursor} {least more : ℕ} → Turn read form_of n s c next least more → more ≤ 0 → TellsRows read form_of n s c (Some next)
turn_ends short {s = s} {next = next} {least = least} {more = more} t h =
    let z : more ≡ 0 = omega arith in
    record { means = sym (t.same ∙ rw z (rows_told_end short least next.at (left s next))); same_part = (omega (arith, t.inside.ahead, t.same_end), t.same_end) }

pub item_turn_ends : (item : Item) {n : ℕ} {s : List ℕ} {c next : Cursor} {least more : ℕ} → Turn (reader_of item) part_form n s c next least more → more ≤ 0 → TellsRows (reader_of item) part_form n s c (Some next)
item_turn_ends item t h = turn_ends (items_shorter item) t h

pub list_turn_ends : (item : Item) {n : ℕ} {s : List ℕ} {c next : Cursor} {least more : ℕ} → Turn (table (reader_of item)) (table_form part_form) n s c next least more → more ≤ 0 → TellsRows (table (reader_of item)) (table_form part_form) n s c (Some next)
list_turn_ends item t h = turn_ends (table_shorter (items_shorter item)) t h

pub ruleset tidy_turns = (turn_begins, turn_not, turn_row, item_turn_ends, list_turn_ends, rules)

-- A list: how many rows it has, and the rows
module _ {A : Type 0} {read : Reader A} {form_of : A → Option (List ℕ)} (short : Shorter read form_of) {s : List ℕ} {c : Cursor} {x : NumberRead} (n : NumberReads s c x) where
  list_none : {r : Refusal} → x ≡ Err r → Tells (table read) (table_form form_of) s c None
  list_none e = record { means = sym (table_told_none short c.at (left s c) (sym (rw e at n.means))); same_part = tt }

  module _ {m : ℕ} {d : Cursor} {t : Bool} (e : x ≡ Ok (m, d, t)) where
    list_padded : t ≡ false → Tells (table read) (table_form form_of) s c None
    list_padded f = record { means = sym (table_told_padded short c.at (left s c) (number_means n e) (sym (number_tells n e) ∙ f)); same_part = tt }

    list_empty : m ≤ 0 → Tells (table read) (table_form form_of) s c None
    list_empty h = record { means = sym (table_told_empty short c.at (left s c) (number_means n e) (omega arith)); same_part = tt }

    list_rows : {y : Tidy} → t ≡ true → 0 < m → TellsRows read form_of m s d y → Tells (table read) (table_form form_of) s c y
    list_rows f h r = let far = number_end n e in record { means = r.means ∙ sym (table_told_rows short c.at (left s c) (number_means n e) (sym (number_tells n e) ∙ f) h); same_part = rw far at r.same_part }

-- of items, and of lists
module _ (item : Item) {s : List ℕ} {c : Cursor} {x : NumberRead} (n : NumberReads s c x) where
  pub items_none : {r : Refusal} → x ≡ Err r → Tells (table (reader_of item)) (table_form part_form) s c None
  items_none h = list_none (items_shorter item) n h

  pub lists_none : {r : Refusal} → x ≡ Err r → Tells (table (table (reader_of item))) (table_form (table_form part_form)) s c None
  lists_none h = list_none (table_shorter (items_shorter item)) n h

  module _ {m : ℕ} {d : Cursor} {t : Bool} (e : x ≡ Ok (m, d, t)) where
    pub items_padded : t ≡ false → Tells (table (reader_of item)) (table_form part_form) s c None
    items_padded f = list_padded (items_shorter item) n e f

    pub items_empty : m ≤ 0 → Tells (table (reader_of item)) (table_form part_form) s c None
    items_empty h = list_empty (items_shorter item) n e h

    pub items_rows : {y : Tidy} → t ≡ true → 0 < m → TellsRows (reader_of item) part_form m s d y → Tells (table (reader_of item)) (table_form part_form) s c y
    items_rows f h r = list_rows (items_shorter item) n e f h r

    pub lists_padded : t ≡ false → Tells (table (table (reader_of item))) (table_form (table_form part_form)) s c None
    lists_padded f = list_padded (table_shorter (items_shorter item)) n e f

    pub lists_empty : m ≤ 0 → Tells (table (table (reader_of item))) (table_form (table_form part_form)) s c None
    lists_empty h = list_empty (table_shorter (items_shorter item)) n e h

    pub lists_rows : {y : Tidy} → t ≡ true → 0 < m → TellsRows (table (reader_of item)) (table_form part_form) m s d y → Tells (table (table (reader_of item))) (table_form (table_form part_form)) s c y
    lists_rows f h r = list_rows (table_shorter (items_shorter item)) n e f h r

pub ruleset tidy_items_list = (items_none, items_padded, items_empty, items_rows, number_inside, rules)

pub ruleset tidy_lists_list = (lists_none, lists_padded, lists_empty, lists_rows, number_inside, rules)

-- Nothing is left over behind it
module _ (x : Tidy) where
  pub filled_not : x ≡ None → false ≡ is_filled x
  filled_not h = rw h

  pub filled_is : {next : Cursor} → x ≡ Some next → eqb next.at next.end ≡ is_filled x
  filled_is e = rw e

pub ruleset fill_steps = (filled_not, filled_is, rules)

module _ {A : Type 0} {read : Reader A} {form_of : A → Option (List ℕ)} {s : List ℕ} {part : Cursor} where
  pub at_end : Inside s part → (y : Tidy) → Tells read form_of s part y → is_filled y ≡ is_yes (told_end (told form_of (left s part) (read part.at (left s part))))
  at_end i None t = ap (λ x. is_yes (told_end x)) t.means
  at_end i (Some next) t =
      let far = t.same_part in
      ends ∙ ap (λ x. is_yes (told_end x)) t.means
    where
      ends : eqb next.at next.end ≡ is_yes (told_end (behind next.at (left s next)))
      ends =
          by_test (eqb next.at next.end)
          (λ q. let is = eqb-true next.at next.end q in
          let nothing : left s next ≡ [] = rw is (slice_empty next.end s) in
          rw (q, nothing))
          (λ q. let less : next.at < next.end = omega (arith, t.same_part.0, t.same_part.1, eqb-false next.at next.end q) in
          rw (q, slice-cons next.at next.end s 0 less (omega (arith, t.same_part.1, i.within))))
