-- What is listed of one name, of a map and of a table of tables: 13 where a list is too short, or all rows in every list.
use Rattle.std.specs.Prelude.{Ok, Err, Some}
use Prim.Native.Nat.{ℕ, ◌+◌, ◌^◌, ◌≤◌, ◌<◌}
use mathlib.Core.Bool.{Bool, true, false, ◌&&◌}
use mathlib.Core.List.{List, [], ◌∷◌, map}
use mathlib.Core.Path.{◌≡◌, refl, sym, ap, ◌∙◌}
use native.Mathlib.Nat.{zero-add}
use native.Mathlib.Omega.{arith}
use borrow.Author.Rules.{rules}
use lib.Dec.{leb}
use lib.ListN.{length}
use lib.Seq.{length-slice}
use Rattle.format.specs.Entries.{Listed, plain_rows, rows_under, group_rows, place_columns, fit_each}
use Rattle.format.proofs.Laws.Entries.{plain_count, lists_short}
use Rattle.format.specs.Numbers.{number}
use Rattle.format.specs.Parts.{Part, sized}
use Rattle.format.specs.Reading.{Reader}
use Rattle.format.specs.Tables.{Table, nil, row, rows, table}
use Rattle.format.specs.Returned.{Answer}
use Rattle.format.specs.declared.Reason.TheVariants.{OutputTooShort}
use Rattle.reading.specs.Cursors.{part_of}
use Rattle.reading.specs.Standing.{Stands, Known, TakesPart}
use Rattle.reading.specs.declared.Cursor.{Cursor}
use Rattle.reading.specs.declared.again.Piece.{Piece}
use Rattle.reading.proofs.Standing.{one_value}
use Rattle.tables.specs.declared.stepping.Rows.{Rows}
use Rattle.tables.proofs.Accepted.{known_count, table_rows, rows_table}
use Rattle.tables.proofs.FindLaws.{count_known}
use Rattle.writing.specs.Columns.{Room, another, Columns, column, no_column}
use Rattle.writing.proofs.Columns.{room_there, lists_all}
use Rattle.entries.specs.declared.rows.Put.{Put}
use Rattle.entries.specs.Counting.{Counts, three_fit, four_fit}
use Rattle.entries.specs.Listing.{one_row, KnownAll, ListsRows}
use Rattle.entries.specs.Putting.{Every, no_row, and_row, AnyPart, Stores, RowsFit, PutsRows, GroupsFit, PutsGroups}
use Rattle.entries.proofs.CountLaws.{table_many}

-- THE ROOM in the lists, as the code tests it
pub record Told (n : ℕ) (lists : List (List ℕ)) (told : Bool) : Type 0 where
  says : fit_each n lists ≡ told

all_four : (w x y z : Bool) → w && (x && (y && (z && true))) ≡ w && x && y && z
all_four true true true true = refl
all_four true true true false = refl
all_four true true false z = refl
all_four true false y z = refl
all_four false x y z = refl

pub four_told : {n : ℕ} {a b c d : List ℕ} {told : Bool} → told ≡ four_fit n (length a) (length b) (length c) (length d) → Told n (a ∷ b ∷ c ∷ d ∷ []) told
unfolding fit_each
four_told {n} {a} {b} {c} {d} is = record { says = all_four (leb n (length a)) (leb n (length b)) (leb n (length c)) (leb n (length d)) ∙ sym is }

all_three : (w x y : Bool) → w && (x && (y && true)) ≡ w && x && y
all_three true true true = refl
all_three true true false = refl
all_three true false y = refl
all_three false x y = refl

pub three_told : {n : ℕ} {a b c : List ℕ} {told : Bool} → told ≡ three_fit n (length a) (length b) (length c) → Told n (a ∷ b ∷ c ∷ []) told
unfolding fit_each
three_told {n} {a} {b} {c} is = record { says = all_three (leb n (length a)) (leb n (length b)) (leb n (length c)) ∙ sym is }

pub told_room : {n : ℕ} {lists : List (List ℕ)} {told : Bool} → Told n lists told → told ≡ true → Room n lists
told_room {n} {lists} t h = room_there n lists (t.says ∙ h)

-- every part will do
any_rows : (t : Table Part) → Every AnyPart t
any_rows nil = no_row
any_rows (row k v t) = and_row tt (any_rows t)

any_groups : (t : Table (Table Part)) → Every (Every AnyPart) t
any_groups nil = no_row
any_groups (row k v t) = and_row (any_rows v) (any_groups t)

-- 13, whatever is to be listed
no_room : {A : Type 0} {read : Reader A} (rows_of : A → List (Listed Part)) {columns : List (Listed Part → ℕ)} {s : List ℕ} {place : Cursor} {lists : List (List ℕ)} {r : Answer} {n : ℕ} (w : Known read s place) → length (rows_of w.value) ≡ n → fit_each n lists ≡ false → r ≡ Err (record { reason = OutputTooShort; offset = record { 0 = n } }) → ListsRows read rows_of columns s place lists lists r
no_room rows_of w many h q = rw (q, ← many) (record { value = w.value; next = w.next; stands = w.stands; its_lists = lists_short refl (rw many h) })

-- ONE NAME
module _ {s : List ℕ} {place : Cursor} {lists : List (List ℕ)} {told : Bool} (t : Told 1 lists told) where
  pub one_short : {columns : List (Listed Part → ℕ)} {r : Answer} → Known sized s place → told ≡ false → r ≡ Err (record { reason = OutputTooShort; offset = record { 0 = 1 } }) → ListsRows sized one_row columns s place lists lists r
  one_short w h q = no_room one_row w refl (t.says ∙ h) q

  pub one_put : {p : Piece} {lists' : List (List ℕ)} {r : Answer} → TakesPart s place p → told ≡ true → Stores 0 0 0 p.part lists lists' → r ≡ Ok (Some (record { offset = record { 0 = 0 }; length = 1 })) → ListsRows sized one_row place_columns s place lists lists' r
  one_put {p} k h w q =
      let i = k.in_part in
      let there = w.stored (part_of s p.part) refl (length-slice p.part.at p.part.end s i.within) in
      rw q (record { value = part_of s p.part; next = p.next; stands = k.stands; its_lists = lists_all refl refl (told_room t h) there })

pub one_ordered : {s : List ℕ} {place : Cursor} {p : Piece} → TakesPart s place p → p.part.at ≤ p.part.end
one_ordered t = t.in_part.ahead

pub ruleset one_listed = (four_told, told_room, one_short, one_put, one_ordered, rules)

-- A MAP: its rows under 0, with the lists of indices exchanged
firsts_are : (t : Table Part) → map (λ e. e.second) (rows_under 0 t) ≡ map (λ e. e.first) (plain_rows t)
unfolding rows_under plain_rows
firsts_are nil = refl
firsts_are (row k x t) = ap (λ l. k ∷ l) (firsts_are t)

seconds_are : (t : Table Part) → map (λ e. e.first) (rows_under 0 t) ≡ map (λ e. e.second) (plain_rows t)
unfolding rows_under plain_rows
seconds_are nil = refl
seconds_are (row k x t) = ap (λ l. 0 ∷ l) (seconds_are t)

held_are : (shows : Part → ℕ) (t : Table Part) → map (λ e. shows e.held) (rows_under 0 t) ≡ map (λ e. shows e.held) (plain_rows t)
unfolding rows_under plain_rows
held_are shows nil = refl
held_are shows (row k x t) = ap (λ l. shows x ∷ l) (held_are shows t)

exchanged : (t : Table Part) {at next : ℕ} {a b c d a' b' c' d' : List ℕ} → Columns (rows_under 0 t) at next place_columns (b ∷ a ∷ c ∷ d ∷ []) (b' ∷ a' ∷ c' ∷ d' ∷ []) → Columns (plain_rows t) at next place_columns (a ∷ b ∷ c ∷ d ∷ []) (a' ∷ b' ∷ c' ∷ d' ∷ [])
exchanged t (column w (column x (column y (column z no_column)))) = column (rw (firsts_are t) at x) (column (rw (seconds_are t) at w) (column (rw (held_are (λ p. p.at) t) at y) (column (rw (held_are (λ p. length p.bytes) t) at z) no_column)))

module _ {s : List ℕ} {place : Cursor} {all : Rows} (i : Stands number s place all.more all.next) where
  module _ {a b c d : List ℕ} {told : Bool} (t : Told all.more (a ∷ b ∷ c ∷ d ∷ []) told) where
    pub map_short : {r : Answer} → Known (table sized) s place → told ≡ false → r ≡ Err (record { reason = OutputTooShort; offset = record { 0 = all.more } }) → ListsRows (table sized) plain_rows place_columns s place (a ∷ b ∷ c ∷ d ∷ []) (a ∷ b ∷ c ∷ d ∷ []) r
    map_short w h q = no_room plain_rows w (plain_count w.value ∙ table_many i w.stands) (t.says ∙ h) q

    pub map_fits : Known (table sized) s place → told ≡ true → all.more < 2 ^ 32 → RowsFit AnyPart s all 0 (b ∷ a ∷ c ∷ d ∷ [])
    map_fits w h small = record {
      its = w.value;
      last = w.next;
      stands = table_rows sized i w.stands;
      every = any_rows w.value;
      room = turned (told_room t h);
      below = omega (arith, small);
    }
      where
        turned : Room all.more (a ∷ b ∷ c ∷ d ∷ []) → Room (0 + all.more) (b ∷ a ∷ c ∷ d ∷ [])
        turned (another h (another g r)) = rw (zero-add all.more) (another g (another h r))

    pub map_put : {put : Put} {a' b' c' d' : List ℕ} {r : Answer} → told ≡ true → PutsRows place_columns s all 0 0 (b ∷ a ∷ c ∷ d ∷ []) (b' ∷ a' ∷ c' ∷ d' ∷ []) put → r ≡ Ok (Some (record { offset = record { 0 = 0 }; length = all.more })) → ListsRows (table sized) plain_rows place_columns s place (a ∷ b ∷ c ∷ d ∷ []) (a' ∷ b' ∷ c' ∷ d' ∷ []) r
    map_put {put} h w q =
        let stands = rows_table sized i w.stands in
        let count : all.more ≡ length (plain_rows w.its) = sym (plain_count w.its ∙ table_many i stands) in
        let end : put.at ≡ all.more = w.many ∙ zero-add all.more in
        rw q (record { value = w.its; next = put.next; stands = stands; its_lists = lists_all refl count (told_room t h) (rw end at (exchanged w.its w.put)) })

pub ruleset map_listed = (four_told, count_known, map_short, map_fits, map_put, rules)

-- A TABLE OF TABLES, whose parts are such, into any number of lists
pub any_held : {s : List ℕ} {place : Cursor} → Known (table (table sized)) s place → KnownAll AnyPart s place
any_held w = record { value = w.value; next = w.next; stands = w.stands; every = any_groups w.value }

module _ {P : Part → Type 0} {s : List ℕ} {place : Cursor} {all : Rows} (i : Stands number s place all.more all.next) where
  pub groups_there : KnownAll P s place → Known (rows (table sized) all.more 0) s all.next
  groups_there w = record { value = w.value; next = w.next; stands = table_rows (table sized) i w.stands }

  module _ {n : ℕ} (count : Counts s all n) {lists : List (List ℕ)} {told : Bool} (t : Told n lists told) where
    pub groups_fit : KnownAll P s place → told ≡ true → n < 2 ^ 64 → GroupsFit P s all lists
    groups_fit w h small =
        let same : w.value ≡ count.its = one_value (table_rows (table sized) i w.stands) count.stands in
        record {
          its = count.its;
          last = count.last;
          stands = count.stands;
          every = rw (← same) w.every;
          room = rw (← count.count) (told_room t h);
          below = omega (arith, small, count.count);
        }

module _ {s : List ℕ} {place : Cursor} {all : Rows} (i : Stands number s place all.more all.next) {n : ℕ} (count : Counts s all n) {lists : List (List ℕ)} {told : Bool} (t : Told n lists told) {columns : List (Listed Part → ℕ)} where
  pub groups_short : {r : Answer} → told ≡ false → r ≡ Err (record { reason = OutputTooShort; offset = record { 0 = n } }) → ListsRows (table (table sized)) group_rows columns s place lists lists r
  groups_short h q = no_room group_rows (record { value = count.its; next = count.last; stands = rows_table (table sized) i count.stands }) (sym count.count) (t.says ∙ h) q

  pub groups_listed : {lists' : List (List ℕ)} {r : Answer} → told ≡ true → PutsGroups columns s all lists lists' → r ≡ Ok (Some (record { offset = record { 0 = 0 }; length = n })) → ListsRows (table (table sized)) group_rows columns s place lists lists' r
  groups_listed h w q =
      let same : count.its ≡ w.its = one_value count.stands w.stands in
      let many : n ≡ length (group_rows w.its) = count.count ∙ ap (λ t. length (group_rows t)) same in
      rw q (record { value = w.its; next = w.last; stands = rows_table (table sized) i w.stands; its_lists = lists_all refl many (told_room t h) (rw (← many) at w.put) })

pub count_there : {P : Part → Type 0} {s : List ℕ} {place : Cursor} → KnownAll P s place → Known number s place
count_there w = known_count (table sized) w.stands

pub ruleset all_listed = (four_told, three_told, any_held, count_there, groups_there, groups_short, groups_fit, groups_listed, rules)
