-- Judging maps of names, step by step: a row, the rows one after the other, a list, the lists of a map, and the map.
use Rattle.std.specs.Prelude.{Ok, Err}
use Prim.Native.Nat.{ℕ, zero, suc, ◌+◌, ◌-◌, ◌≤◌, ◌<◌}
use mathlib.Core.Bool.{Bool, true, false}
use mathlib.Core.List.{List}
use mathlib.Core.Path.{◌≡◌, refl, sym, ◌∙◌}
use native.Mathlib.Numerals.{add-one}
use native.Mathlib.Omega.{arith}
use borrow.Author.Rules.{rules}
use lib.Dec.{leb}
use Rattle.format.specs.Reading.{Outcome, got, stop, Reader, and_then, return}
use Rattle.format.specs.Numbers.{number}
use Rattle.format.specs.Parts.{sized, name}
use Rattle.format.specs.Tables.{Table, row, rows, table}
use Rattle.format.specs.Text.{utf8}
use Rattle.format.specs.Laws.Outcomes.{not_got, got_value, got_next, got_rest, by_test, by_outcome}
use Rattle.format.specs.declared.Refusal.{Refusal}
use Rattle.format.specs.declared.Reason.TheVariants.{NotText}
use Rattle.reading.specs.Cursors.{Inside, left, refusal_of, NumberReads, PartReads}
use Rattle.reading.specs.declared.Cursor.{Cursor}
use Rattle.reading.specs.Returned.{NumberRead}
use Rattle.reading.specs.Returned.{PartRead}
use Rattle.reading.proofs.Laws.{number_means, number_end, number_inside, name_means, name_behind}
use Rattle.reading.proofs.PartSteps.{name_refused, name_taken, name_not_text, part_ahead, part_within}
use Rattle.tables.specs.Judging.{passed, name_map_read, Judges, numbered, steps, list_number, list_count, listed, RowJudges, Counts}
use Rattle.tables.specs.Steps.{index_from, IndexReads}
use Rattle.tables.specs.Returned.{Judged}
use Rattle.tables.specs.Returned.{JudgedRow}
use Rattle.tables.proofs.RowSteps.{index_end, index_inside}

-- A number that is read
index_counts : {least : ℕ} {s : List ℕ} {c : Cursor} (x : NumberRead) → Inside s c → IndexReads least s c x → Counts (index_from least) s c x
index_counts (Err r) i n = record { means = n.means; same_part = tt }
index_counts (Ok (k, d, told)) i n =
    let there = index_inside i n refl in
    let far = index_end n refl in
    record { means = n.means; same_part = (omega (arith, there.ahead), far) }

number_counts : {s : List ℕ} {c : Cursor} (x : NumberRead) → Inside s c → NumberReads s c x → Counts number s c x
number_counts (Err r) i n = record { means = n.means; same_part = tt }
number_counts (Ok (k, d, told)) i n =
    let there = number_inside i n refl in
    let far = number_end n refl in
    record { means = n.means; same_part = (omega (arith, there.ahead), far) }

-- the number of a list, and how many there are: read where lists are nested
module _ {nested : Bool} {s : List ℕ} {c : Cursor} (i : Inside s c) where
  module _ {x : NumberRead} (t : nested ≡ true) where
    pub list_index : {least : ℕ} → IndexReads least s c x → Counts (list_number nested least) s c x
    unfolding list_number
    list_index n = rw t (index_counts x i n)

    pub list_number_lem : NumberReads s c x → Counts (list_count nested) s c x
    unfolding list_count
    list_number_lem n = rw t (number_counts x i n)

  module _ (t : nested ≡ false) where
    pub no_index : (least : ℕ) → Counts (list_number nested least) s c (Ok (0, c, true))
    unfolding list_number
    no_index least = rw t (record { means = refl; same_part = (i.ahead, refl) })

    pub no_count : Counts (list_count nested) s c (Ok (1, c, true))
    unfolding list_count
    no_count = rw t (record { means = refl; same_part = (i.ahead, refl) })

pub ruleset count_steps = (list_index, list_number_lem, no_index, no_count, rules)

module _ {read : Reader ℕ} {s : List ℕ} {c : Cursor} {x : NumberRead} (n : Counts read s c x) where
  no_count_means : {r : Refusal} → x ≡ Err r → read c.at (left s c) ≡ refusal_of r
  no_count_means e = sym (rw e at n.means)

  module _ {k : ℕ} {d : Cursor} {told : Bool} (e : x ≡ Ok (k, d, told)) where
    count_means : read c.at (left s c) ≡ got k d.at (left s d)
    count_means = sym (rw e at n.means)

    count_end : (d.at ≤ c.end) × (d.end ≡ c.end)
    count_end = rw e at n.same_part

    pub count_inside : Inside s c → Inside s d
    count_inside i = let far = count_end in record { ahead = omega (arith, far.0, far.1); within = omega (arith, far.1, i.within) }

-- A row
module _ {A : Type 0} (index : ℕ → Reader ℕ) (value : Reader A) {least : ℕ} {s : List ℕ} {c : Cursor} {x : NumberRead} (n : Counts (index least) s c x) where
  no_number : {r : Refusal} → x ≡ Err r → RowJudges (numbered index value) least s c (Err r)
  unfolding numbered
  no_number e = record { means = rw (no_count_means n e); same_part = tt }

  module _ {k : ℕ} {d : Cursor} {told : Bool} (e : x ≡ Ok (k, d, told)) where
    no_value : {r : Refusal} → value d.at (left s d) ≡ refusal_of r → RowJudges (numbered index value) least s c (Err r)
    unfolding numbered
    no_value q = record { means = rw (count_means n e, q); same_part = tt }

    a_row : {v : A} {next : Cursor} → value d.at (left s d) ≡ got v next.at (left s next) → next.at ≤ d.end → next.end ≡ d.end → RowJudges (numbered index value) least s c (Ok (k, next))
    unfolding numbered
    a_row q near same = let far = count_end n e in record { means = rw (count_means n e, q); same_part = (omega (arith, near, far.1), same ∙ far.1) }

-- one whose value is a name
module _ {least : ℕ} {s : List ℕ} {c : Cursor} {x : NumberRead} (i : Inside s c) (n : IndexReads least s c x) where
  pub row_no_index : {r : Refusal} → x ≡ Err r → RowJudges (numbered index_from name) least s c (Err r)
  row_no_index e = no_number index_from name (index_counts x i n) e

  module _ {k : ℕ} {d : Cursor} {told : Bool} (e : x ≡ Ok (k, d, told)) {y : PartRead} (p : PartReads sized s d y) where
    pub row_no_part : {r : Refusal} → y ≡ Err r → RowJudges (numbered index_from name) least s c (Err r)
    row_no_part q = no_value index_from name (index_counts x i n) e (sym (name_refused (rw q at p)).means)

    module _ {part next : Cursor} {told' : Bool} (q : y ≡ Ok (part, next, told')) {b : Bool} (is : b ≡ utf8 (left s part)) where
      pub row_not_text : b ≡ false → RowJudges (numbered index_from name) least s c (Err (record { reason = NotText; offset = record { 0 = part.at } }))
      row_not_text t = no_value index_from name (index_counts x i n) e (sym (name_not_text (rw q at p) is t).means)

      pub row_named : b ≡ true → RowJudges (numbered index_from name) least s c (Ok (k, next))
      row_named t =
          let taken = name_taken (rw q at p) is t in
          let there = name_behind (index_inside i n e) taken refl in
          a_row index_from name (index_counts x i n) e (name_means taken refl) (omega (arith, there.in_rest.ahead, there.same_end)) there.same_end

pub ruleset judged_row = (row_no_index, row_no_part, row_not_text, row_named, index_inside, part_ahead, part_within, rules)

-- what was read, and is not kept
abbrev dropped : {A : Type 0} → Outcome A → Outcome (Unit {0})
dropped r = and_then r (λ v. return tt)

-- one whose value is a list
stops_alike : {A B : Type 0} {n m at at' : ℕ} → ◌≡◌ {A = Outcome A} (stop n at) (stop m at') → ◌≡◌ {A = Outcome B} (stop m at') (stop n at)
stops_alike {n = n} {m = m} {at = at} {at' = at'} e = let number : n ≡ m = cc in let place : at ≡ at' = cc in rw (number, place)

not_passed : {A : Type 0} (r : Outcome A) {n at : ℕ} → stop n at ≡ dropped r → r ≡ stop n at
not_passed (got v o bs) e = absurd (not_got e)
not_passed (stop n at) e = stops_alike e

in_passed : {A C : Type 0} (r : Outcome A) {o : ℕ} {bs : List ℕ} → got tt o bs ≡ dropped r → ((v : A) → r ≡ got v o bs → C) → C
in_passed (got v o bs) e k = k v (let next = got_next e in let rest = got_rest e in rw (next, rest))
in_passed (stop n at) e k = absurd (not_got (sym e))

module _ (nested : Bool) {least : ℕ} {s : List ℕ} {c : Cursor} {x : NumberRead} (n : Counts (list_number nested least) s c x) where
  pub list_no_index : {r : Refusal} → x ≡ Err r → RowJudges (listed nested) least s c (Err r)
  list_no_index e = no_number (list_number nested) (table name) n e

  module _ {k : ℕ} {d : Cursor} {told : Bool} (e : x ≡ Ok (k, d, told)) {y : Judged} (p : Judges (passed (table name)) s d y) where
    pub list_refused : {r : Refusal} → y ≡ Err r → RowJudges (listed nested) least s c (Err r)
    list_refused q = no_value (list_number nested) (table name) n e (not_passed (table name d.at (left s d)) (rw q at p.means))

    pub list_behind : {next : Cursor} → y ≡ Ok next → RowJudges (listed nested) least s c (Ok (k, next))
    list_behind q =
        let far = rw q at p.same_part in
        in_passed (table name d.at (left s d)) (rw q at p.means) λ v reads.
        a_row (list_number nested) (table name) n e reads far.0 far.1

pub ruleset judged_list = (list_no_index, list_refused, list_behind, count_inside, rules)

-- The rows, whenever the loop is reached
opened : (step : ℕ → Reader ℕ) (more least o : ℕ) (bs : List ℕ) → 0 < more → steps step more least o bs ≡ and_then (step least o bs) (λ k. steps step (more - 1) (suc k))
unfolding steps
opened step zero least o bs h = absurd (omega arith)
opened step (suc n) least o bs h = let d : suc n - 1 ≡ n = omega arith in rw d

all_passed : (step : ℕ → Reader ℕ) (more least o : ℕ) (bs : List ℕ) → more ≤ 0 → steps step more least o bs ≡ got tt o bs
unfolding steps
all_passed step zero least o bs h = refl
all_passed step (suc n) least o bs h = absurd (omega arith)

pub record Turn (step : ℕ → Reader ℕ) (n : ℕ) (s : List ℕ) (c next : Cursor) (least more : ℕ) : Type 0 where
  pub inside : Inside s next
  pub same_end : next.end ≡ c.end
  pub same : steps step n 0 c.at (left s c) ≡ steps step more least next.at (left s next)

module _ {step : ℕ → Reader ℕ} {n : ℕ} {s : List ℕ} {c : Cursor} where
  pub turn_begins : Inside s c → Turn step n s c c 0 n
  turn_begins i = record { inside = i; same_end = refl; same = refl }

  module _ {next : Cursor} {least more : ℕ} (t : Turn step n s c next least more) where
    pub turn_refused : {x : JudgedRow} {r : Refusal} → 0 < more → RowJudges step least s next x → x ≡ Err r → Judges (steps step n 0) s c (Err r)
    turn_refused h p e = record { means = sym (t.same ∙ opened step more least next.at (left s next) h ∙ rw (← rw e at p.means)); same_part = tt }

    pub turn_row : {x : JudgedRow} {k : ℕ} {after : Cursor} → 0 < more → RowJudges step least s next x → x ≡ Ok (k, after) → Turn step n s c after (k + 1) (more - 1)
    turn_row h p e =
        let far = rw e at p.same_part in
        record {
          inside = record { ahead = omega (arith, far.0, far.1); within = omega (arith, far.1, t.inside.within) };
          same_end = far.1 ∙ t.same_end;
          same = t.same ∙ opened step more least next.at (left s next) h ∙ rw (← rw e at p.means, add-one);
        }

    pub turn_ends : more ≤ 0 → Judges (steps step n 0) s c (Ok next)
    turn_ends h = record { means = sym (t.same ∙ all_passed step more least next.at (left s next) h); same_part = (omega (arith, t.inside.ahead, t.same_end), t.same_end) }

pub ruleset judged_turns = (turn_begins, turn_refused, turn_row, turn_ends, rules)

-- rows of a table are such steps
row_dropped : {A : Type 0} (k : ℕ) (v : A) (r : Outcome (Table A)) → dropped (and_then r (λ t. return (row k v t))) ≡ dropped r
row_dropped k v (got t o bs) = refl
row_dropped k v (stop n at) = refl

rows_steps : {A : Type 0} (value : Reader A) (n least o : ℕ) (bs : List ℕ) → passed (rows value n least) o bs ≡ steps (numbered index_from value) n least o bs
unfolding rows steps numbered index_from
rows_steps value zero least o bs = refl
rows_steps value (suc n) least o bs =
    by_outcome (number o bs)
    (λ k o₁ r₁ e. rw e (by_test (leb least k)
    (λ t. rw t (by_outcome (value o₁ r₁)
    (λ v o₂ r₂ e₁. rw e₁ (row_dropped k v (rows value n (suc k) o₂ r₂) ∙ rows_steps value n (suc k) o₂ r₂))
    (λ m at e₁. rw e₁)))
    (λ t. rw t)))
    (λ m at e. rw e)

-- A list: how many rows it has, and the rows
module _ {A : Type 0} (value : Reader A) {s : List ℕ} {c : Cursor} where
  table_no_count : {r : Refusal} → number c.at (left s c) ≡ refusal_of r → Judges (passed (table value)) s c (Err r)
  unfolding table
  table_no_count e = record { means = rw e; same_part = tt }

  table_counted : {m : ℕ} {d : Cursor} {y : Judged} → number c.at (left s c) ≡ got m d.at (left s d) → d.end ≡ c.end → Judges (steps (numbered index_from value) m 0) s d y → Judges (passed (table value)) s c y
  unfolding table
  table_counted {m} {d} e far r = record { means = r.means ∙ sym (rows_steps value m 0 d.at (left s d)) ∙ rw e; same_part = rw far at r.same_part }

module _ {s : List ℕ} {c : Cursor} {x : NumberRead} (n : NumberReads s c x) where
  pub names_no_count : {r : Refusal} → x ≡ Err r → Judges (passed (table name)) s c (Err r)
  names_no_count e = table_no_count name (sym (rw e at n.means))

  pub names_counted : {m : ℕ} {d : Cursor} {told : Bool} {y : Judged} → x ≡ Ok (m, d, told) → Judges (steps (numbered index_from name) m 0) s d y → Judges (passed (table name)) s c y
  names_counted e r = table_counted name (number_means n e) (number_end n e) r

pub ruleset judged_names = (names_no_count, names_counted, number_inside, rules)

-- A map: how many lists it has, and the lists
unnumbered : {A : Type 0} (r : Outcome A) → dropped {A = ℕ} (and_then r (λ v. return 0)) ≡ dropped r
unnumbered (got v o bs) = refl
unnumbered (stop n at) = refl

one_list : {m o o' : ℕ} {bs bs' : List ℕ} → got m o bs ≡ got 1 o' bs' → steps (listed false) m 0 o bs ≡ passed (table name) o' bs'
unfolding steps numbered list_number
one_list {o' = o'} {bs' = bs'} e =
    let one = got_value e in
    let next = got_next e in
    let rest = got_rest e in
    rw (one, next, rest) (unnumbered (table name o' bs'))

module _ {s : List ℕ} {c : Cursor} {x : NumberRead} where
  pub map_no_count : (nested : Bool) {r : Refusal} → Counts (list_count nested) s c x → x ≡ Err r → Judges (name_map_read nested) s c (Err r)
  unfolding list_count
  map_no_count true n e = table_no_count (table name) (no_count_means n e)
  map_no_count false n e = absurd (not_got (sym (no_count_means n e)))

  pub map_counted : (nested : Bool) {m : ℕ} {d : Cursor} {told : Bool} {y : Judged} → Counts (list_count nested) s c x → x ≡ Ok (m, d, told) → Judges (steps (listed nested) m 0) s d y → Judges (name_map_read nested) s c y
  unfolding list_count list_number
  map_counted true n e r = table_counted (table name) (count_means n e) (count_end n e).1 r
  map_counted false n e r = let far = count_end n e in record { means = r.means ∙ one_list (sym (count_means n e)); same_part = rw far.1 at r.same_part }

pub ruleset judged_maps = (map_no_count, map_counted, count_inside, rules)
