-- What reading a row does with what it read first: an item, the row's number, and the row.
use Rattle.std.specs.Prelude.{Ok, Err, Some, None}
use Prim.Native.Nat.{ℕ, ◌-◌, ◌≤◌, ◌<◌}
use mathlib.Core.Bool.{Bool, true, false}
use mathlib.Core.List.{List}
use mathlib.Core.Option.{Option, some}
use mathlib.Core.Path.{◌≡◌, refl, sym, ◌∙◌}
use native.Mathlib.Omega.{arith}
use borrow.Author.Rules.{rules}
use borrow.Author.Tests.{le-leb, lt-leb, leb-true}
use lib.Dec.{leb}
use Rattle.format.specs.Reading.{Outcome, got, stop, Reader}
use Rattle.format.specs.Numbers.{number}
use Rattle.format.specs.Parts.{Part, sized}
use Rattle.format.specs.Tables.{Table, table}
use Rattle.format.specs.Metadata.{hint_of, any_item, hint_item}
use Rattle.format.specs.Options.{is_some}
use Rattle.format.specs.Text.{utf8}
use Rattle.format.specs.Laws.Outcomes.{not_got, got_value, got_next, got_rest, by_outcome, in_turn, passed}
use Rattle.format.specs.declared.Refusal.{Refusal}
use Rattle.format.specs.declared.Reason.TheVariants.{NotAbove, NotText, NotHint}
use Rattle.reading.specs.Cursors.{Inside, left, NumberReads, PartReads}
use Rattle.reading.specs.declared.Cursor.{Cursor}
use Rattle.reading.specs.Returned.{NumberRead}
use Rattle.reading.specs.Returned.{PartRead}
use Rattle.reading.proofs.Laws.{number_means, number_tells, number_inside, number_end, sized_means, part_behind}
use Rattle.reading.proofs.PartSteps.{name_refused, name_taken, name_not_text}
use Rattle.tables.specs.Seeking.{reader_of, is_item, not_item, wanted_in, sought, Seeks}
use Rattle.tables.specs.Steps.{index_from, IndexReads, passing, RowReads}
use Rattle.tables.specs.declared.Item.{Item}
use Rattle.tables.specs.declared.Item.TheVariants.{Name, Data, Hint}
use Rattle.tables.specs.declared.Wanted.{Wanted}
use Rattle.tables.specs.Returned.{Seek, Held}
use Rattle.tables.proofs.Hints.{value_short}
use Rattle.tables.proofs.Laws.{item_means, item_behind, none_means, none_end, none_inside, found_means, found_inside}

-- An item's bytes
module _ (item : Item) (bs : List ℕ) where
  pub name_bytes : {b : Bool} → item ≡ Name → b ≡ utf8 bs → b ≡ is_item item bs
  name_bytes e f = rw e f

  pub data_bytes : item ≡ Data → true ≡ is_item item bs
  data_bytes e = rw e refl

  pub hint_bytes_lem : {b : Bool} → item ≡ Hint → b ≡ is_some (hint_of bs) → b ≡ is_item item bs
  hint_bytes_lem e f = rw e f

pub ruleset item_steps = (name_bytes, data_bytes, hint_bytes_lem, rules)

module _ (item : Item) (size text : ℕ) where
  pub not_name : item ≡ Name → record { reason = NotText; offset = record { 0 = text } } ≡ not_item item size text
  not_name e = rw e refl

  pub not_data : item ≡ Data → record { reason = NotText; offset = record { 0 = text } } ≡ not_item item size text
  not_data e = rw e refl

  pub not_hint : item ≡ Hint → record { reason = NotHint; offset = record { 0 = size } } ≡ not_item item size text
  not_hint e = rw e refl

pub ruleset not_steps = (not_name, not_data, not_hint, rules)

-- An item: a sized part with such bytes
module _ {s : List ℕ} {c : Cursor} {x : PartRead} (n : PartReads sized s c x) where
  pub value_refused : (item : Item) {r : Refusal} → x ≡ Err r → PartReads (reader_of item) s c (Err r)
  unfolding any_item hint_item
  value_refused Name e = name_refused (rw e at n)
  value_refused Data e = rw e at n
  value_refused Hint e = record { means = rw (← rw e at n.means); same_part = tt; tells = tt }

  module _ {part next : Cursor} {told : Bool} (e : x ≡ Ok (part, next, told)) where
    pub value_taken : (item : Item) {b : Bool} → b ≡ is_item item (left s part) → b ≡ true → PartReads (reader_of item) s c (Ok (part, next, told))
    unfolding any_item hint_item
    value_taken Name q t = name_taken (rw e at n) q t
    value_taken Data q t = rw e at n
    value_taken Hint q t = record { means = rw (sized_means n e, ← q, t); same_part = rw e at n.same_part; tells = rw e at n.tells }

    not_taken : (item : Item) {b : Bool} → b ≡ is_item item (left s part) → b ≡ false → PartReads (reader_of item) s c (Err (not_item item c.at part.at))
    unfolding hint_item
    not_taken Name q t = name_not_text (rw e at n) q t
    not_taken Data q t = absurd (let z : ◌≡◌ {A = ℕ} 0 1 = cc in omega arith)
    not_taken Hint q t = record { means = rw (sized_means n e, ← q, t); same_part = tt; tells = tt }

    pub value_not : (item : Item) {b : Bool} {r : Refusal} → b ≡ is_item item (left s part) → b ≡ false → r ≡ not_item item c.at part.at → PartReads (reader_of item) s c (Err r)
    value_not item q t w = rw w (not_taken item q t)

    pub part_inside : Inside s c → Inside s part
    part_inside i = (part_behind i n e).in_part

pub ruleset value_steps = (value_short, value_refused, value_taken, value_not, part_inside, rules)

-- A row's number
module _ {s : List ℕ} {c : Cursor} {x : NumberRead} {least : ℕ} where
  pub index_refused : {r : Refusal} → NumberReads s c x → x ≡ Err r → IndexReads least s c (Err r)
  unfolding index_from
  index_refused n e = record { means = rw (← rw e at n.means); same_part = tt; tells = tt }

  module _ {k : ℕ} {next : Cursor} {told : Bool} (n : NumberReads s c x) (e : x ≡ Ok (k, next, told)) where
    pub index_low : k < least → IndexReads least s c (Err (record { reason = NotAbove; offset = record { 0 = c.at } }))
    unfolding index_from
    index_low h = record { means = rw (number_means n e, lt-leb least k h); same_part = tt; tells = tt }

    pub index_taken : least ≤ k → IndexReads least s c (Ok (k, next, told))
    unfolding index_from
    index_taken h = record { means = rw (number_means n e, le-leb least k h); same_part = number_end n e; tells = number_tells n e }

pub ruleset index_steps = (index_refused, index_low, index_taken, rules)

module _ {s : List ℕ} {c : Cursor} {x : NumberRead} {least k : ℕ} {d : Cursor} {told : Bool} where
  index_means : IndexReads least s c x → x ≡ Ok (k, d, told) → index_from least c.at (left s c) ≡ got k d.at (left s d)
  index_means n e = sym (rw e at n.means)

  pub index_end : IndexReads least s c x → x ≡ Ok (k, d, told) → d.end ≡ c.end
  index_end n e = rw e at n.same_part

  pub index_number : IndexReads least s c x → x ≡ Ok (k, d, told) → NumberReads s c (Ok (k, d, told))
  unfolding index_from
  index_number n e =
      in_turn (number c.at (left s c)) _ (index_means n e) λ k' o₁ r₁ e₁ e₂. passed (leb least k') _ _ _ _ _ e₂ λ t e₃.
      record { means = sym (e₁ ∙ e₃); same_part = index_end n e; tells = rw e at n.tells }

  pub index_above : IndexReads least s c x → x ≡ Ok (k, d, told) → least ≤ k
  unfolding index_from
  index_above n e =
      in_turn (number c.at (left s c)) _ (index_means n e) λ k' o₁ r₁ e₁ e₂. passed (leb least k') _ _ _ _ _ e₂ λ t e₃.
      omega (arith, leb-true least k' t, got_value e₃)

  pub index_inside : Inside s c → IndexReads least s c x → x ≡ Ok (k, d, told) → Inside s d
  index_inside i n e = number_inside i (index_number n e) refl

-- A row
module _ {s : List ℕ} {c : Cursor} {x : NumberRead} {least : ℕ} where
  pub row_no_index : {A : Type 0} {value : Reader A} {answer : A → Option Part} {r : Refusal} → IndexReads least s c x → x ≡ Err r → RowReads value answer least s c (Err r)
  unfolding passing
  row_no_index n e = record { means = rw (← rw e at n.means); same_part = tt }

  module _ {k : ℕ} {d : Cursor} {told : Bool} where
    pub row_no_value : {value : Reader Part} {y : PartRead} {r : Refusal} → IndexReads least s c x → x ≡ Ok (k, d, told) → PartReads value s d y → y ≡ Err r → RowReads value some least s c (Err r)
    unfolding passing
    row_no_value n e v q = record { means = rw (index_means n e, ← rw q at v.means); same_part = tt }

    pub row_passed : (item : Item) {y : PartRead} {part next : Cursor} {told' : Bool} → Inside s c → IndexReads least s c x → x ≡ Ok (k, d, told) → PartReads (reader_of item) s d y → y ≡ Ok (part, next, told') → RowReads (reader_of item) some least s c (Ok (k, (Some part), next))
    unfolding passing
    row_passed item i n e v q =
        let b = item_behind item (index_inside i n e) v q in
        let far = index_end n e in
        record {
          means = rw (index_means n e, item_means v q);
          same_part = ((b.in_part.ahead, omega (arith, b.ends, b.in_rest.ahead, b.same_end)), omega (arith, b.in_rest.ahead, b.same_end), b.same_end ∙ far);
        }

-- one whose value is a table: what the table was asked
in_sought : {C : Type 0} (value : Reader Part) (inner : Wanted) (o : ℕ) (bs : List ℕ) {found : Option Part} {o' : ℕ} {rest : List ℕ} → sought value inner o bs ≡ got found o' rest → ((t : Table Part) → table value o bs ≡ got t o' rest → wanted_in inner t ≡ found → C) → C
unfolding sought
in_sought value inner o bs e k = in_turn (table value o bs) _ e λ t o₁ r₁ e₁ e₂. k t (rw (got_next e₂, got_rest e₂) at e₁) (got_value e₂)

-- a refusal is the same one whatever would have been read
stops_alike : {A B : Type 0} {n m at at' : ℕ} → ◌≡◌ {A = Outcome A} (stop n at) (stop m at') → ◌≡◌ {A = Outcome B} (stop m at') (stop n at)
stops_alike {n = n} {m = m} {at = at} {at' = at'} e = let number : n ≡ m = cc in let place : at ≡ at' = cc in rw (number, place)

unsought : (value : Reader Part) (inner : Wanted) (o : ℕ) (bs : List ℕ) {n at : ℕ} → stop n at ≡ sought value inner o bs → table value o bs ≡ stop n at
unfolding sought
unsought value inner o bs e = by_outcome (table value o bs) (λ t o₁ r₁ e₁. absurd (not_got (rw e₁ at e))) (λ n at e₁. e₁ ∙ stops_alike (rw e₁ at e))

module _ (value : Reader Part) (inner : Wanted) {s : List ℕ} {c : Cursor} {x : NumberRead} {least k : ℕ} {d : Cursor} {told : Bool} {y : Seek} where
  pub group_refused : {r : Refusal} → IndexReads least s c x → x ≡ Ok (k, d, told) → Seeks (sought value inner) s d y → y ≡ Err r → RowReads (table value) (wanted_in inner) least s c (Err r)
  unfolding passing
  group_refused n e v q = record { means = rw (index_means n e, unsought value inner d.at (left s d) (rw q at v.means)); same_part = tt }

  pub group_taken : (answer : Held) {next : Cursor} → Inside s c → IndexReads least s c x → x ≡ Ok (k, d, told) → Seeks (sought value inner) s d y → y ≡ Ok (answer, next) → RowReads (table value) (wanted_in inner) least s c (Ok (k, answer, next))
  unfolding passing
  group_taken None i n e v q =
      in_sought value inner d.at (left s d) (none_means v q) λ t e₁ is.
      let b = none_inside (index_inside i n e) v q in
      let far = none_end v q in
      let end = index_end n e in
      record { means = rw (index_means n e, e₁, is); same_part = (tt, omega (arith, b.ahead), far ∙ end) }
  group_taken (Some part) i n e v q =
      in_sought value inner d.at (left s d) (found_means v q) λ t e₁ is.
      let b = found_inside (index_inside i n e) v q in
      let same = rw q at v.same_part in
      let end = index_end n e in
      record { means = rw (index_means n e, e₁, is); same_part = ((same.0, omega (arith, same.1)), omega (arith, b.ahead, same.2), same.2 ∙ end) }

pub ruleset row_steps = (row_no_index, row_no_value, row_passed, index_inside, rules)

pub ruleset group_steps = (row_no_index, group_refused, group_taken, index_inside, rules)
