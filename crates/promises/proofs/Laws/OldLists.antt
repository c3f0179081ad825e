-- Every pair of older hints as a row: what is listed, and what the lists hold after the call.
use Prim.Native.Nat.{ℕ, zero, suc, ◌+◌, ◌≤◌, ◌<◌}
use Rattle.std.specs.Prelude.{true, List, [], ◌∷◌, ◌++◌, map, ◌≢◌, ◌⊎◌, ◌≡◌, refl, leb, length, drop}
use Rattle.std.proofs.Math.Logic.{inl, inr, ⊎_elim}
use Rattle.std.proofs.Math.Option.{some}
use Rattle.std.proofs.Math.Path.{sym}
use Rattle.std.proofs.Common.{ap, ◌∙◌, arith}
use borrow.Author.Tests.{leb-true}
use Rattle.std.proofs.Math.ListN.{get_elem?}
use Rattle.std.proofs.lemmas.List.{length-map}
use Rattle.format.specs.Entries.{Listed, rows_under, group_rows, older_rows, older_columns, fit_each, over_each}
use Rattle.format.specs.Holding.{Has, first, later, HasWithin}
use Rattle.format.proofs.Laws.Codecs.{Sorted, end, next}
use Rattle.format.proofs.Laws.Holding.{within_exactly}
use Rattle.format.proofs.Laws.OlderSorted.{Group, Any, any_numbers, sorted_entries, first_found}
use Rattle.format.specs.Laws.Options.{not_some, some_is, by_option}
use Rattle.format.specs.Laws.Outcomes.{by_test, false_true, mapped}
use Rattle.format.specs.Older.{OlderEntry, kind_number, judge_older, first_in, ask_older, sorted_from}
use Rattle.format.specs.Reading.{accepted, map_judged}
use Rattle.format.specs.Tables.{Table, nil, row}
use Rattle.format.specs.declared.Hint.{Hint}
use Rattle.format.specs.declared.Hint.TheVariants.{Unlikely, Likely}
use Rattle.wakemiono.specs.Boundary.{wm_none, wm_found, wm_refused, wm_hint, WmLists}
use Rattle.wakemiono.specs.declared.WmAnswer.{WmAnswer}
use Rattle.promises.specs.Demands.{Leaves, RowAt}
use Rattle.promises.proofs.Laws.Markers.{put_first, first_of, put_nothing}
use Rattle.promises.specs.Laws.Rows.{Came, came_refused, came_none_lem, came_short, came_listed, came}

-- POSITIONS in a list, in one that is joined of two, and in a column
at_there : {A : Type 0} (xs : List A) (i : ℕ) → i < length xs → (x : A) × (get_elem? xs i ≡ some x)
at_there [] i h = absurd (omega arith)
at_there (x ∷ xs) zero h = (x, refl)
at_there (x ∷ xs) (suc i) h = at_there xs i (omega arith)

pub at_inside : {A : Type 0} (xs : List A) (i : ℕ) {x : A} → get_elem? xs i ≡ some x → i < length xs
at_inside [] i e = absurd (not_some e)
at_inside (x ∷ xs) zero e = omega arith
at_inside (x ∷ xs) (suc i) e = let h = at_inside xs i e in omega (arith, h)

abbrev Side : {A : Type 0} (a b : List A) (i : ℕ) (x : A) → Type 0
Side a b i x = ((i < length a) × (get_elem? a i ≡ some x)) ⊎ ((j : ℕ) × (i ≡ length a + j) × (get_elem? b j ≡ some x))

side : {A : Type 0} (a b : List A) (i : ℕ) {x : A} → get_elem? (a ++ b) i ≡ some x → Side a b i x
side [] b i e = inr (i, omega arith, e)
side (y ∷ a) b zero e = inl (omega arith, e)
side (y ∷ a) b (suc i) e = ⊎_elim (λ l. inl (let h = l.0 in omega (arith, h), l.1)) (λ r. inr (r.0, (let h = r.1 in omega (arith, h)), r.2)) (side a b i e)

on_the_left : {A : Type 0} (a b : List A) (i : ℕ) {x : A} → get_elem? a i ≡ some x → get_elem? (a ++ b) i ≡ some x
on_the_left [] b i e = absurd (not_some e)
on_the_left (y ∷ a) b zero e = e
on_the_left (y ∷ a) b (suc i) e = on_the_left a b i e

on_the_right : {A : Type 0} (a b : List A) (i : ℕ) {x : A} → get_elem? b i ≡ some x → (j : ℕ) × (get_elem? (a ++ b) j ≡ some x)
on_the_right [] b i e = (i, e)
on_the_right (y ∷ a) b i e = let (j, q) = on_the_right a b i e in (suc j, q)

pub map_at : {A : Type 0} (f : A → ℕ) (xs : List A) (i : ℕ) {x : A} → get_elem? xs i ≡ some x → get_elem? (map f xs) i ≡ some (f x)
map_at f [] i e = absurd (not_some e)
map_at f (y ∷ xs) zero e = ap (λ z. some (f z)) (some_is e)
map_at f (y ∷ xs) (suc i) e = map_at f xs i e

-- THE ROWS of a table of tables: exactly what it has
module _ {X : Type 0} where
  under_has : (k : ℕ) (u : Table X) (i : ℕ) {e : Listed X} → get_elem? (rows_under k u) i ≡ some e → (e.first ≡ k) × Has e.second e.held u
  unfolding rows_under
  under_has k nil i e = absurd (not_some e)
  under_has k (row j x u) zero e = rw (← some_is e) (refl, first)
  under_has k (row j x u) (suc i) e = let (q, h) = under_has k u i e in (q, later h)

  groups_have : (t : Table (Table X)) (i : ℕ) {e : Listed X} → get_elem? (group_rows t) i ≡ some e → HasWithin e.first e.second e.held t
  unfolding group_rows
  groups_have nil i e = absurd (not_some e)
  groups_have (row k u t) i e =
      ⊎_elim
      (λ l. let (q, h) = under_has k u i l.1 in record { group = u; outer = rw q first; inner = h })
      (λ r. let w = groups_have t r.0 r.2 in record { group = w.group; outer = later w.outer; inner = w.inner })
      (side (rows_under k u) (group_rows t) i e)

  has_under : (k : ℕ) {j : ℕ} {x : X} {u : Table X} → Has j x u → (i : ℕ) × (get_elem? (rows_under k u) i ≡ some (record { first = k; second = j; held = x }))
  unfolding rows_under
  has_under k first = (0, refl)
  has_under k (later h) = let (i, e) = has_under k h in (suc i, e)

  have_groups : {k j : ℕ} {x : X} {u : Table X} {t : Table (Table X)} → Has k u t → Has j x u → (i : ℕ) × (get_elem? (group_rows t) i ≡ some (record { first = k; second = j; held = x }))
  unfolding group_rows
  have_groups {k} {u = u} (first {t = t}) h = let (i, e) = has_under k h in (i, on_the_left (rows_under k u) (group_rows t) i e)
  have_groups (later {i = g} {w = v} {t = t} o) h = let (i, e) = have_groups o h in on_the_right (rows_under g v) (group_rows t) i e

  -- in the order of both numbers
  module _ {P : ℕ → X → Type 0} where
    under_least : (k : ℕ) {least : ℕ} {u : Table X} → Sorted P least u → (i : ℕ) {e : Listed X} → get_elem? (rows_under k u) i ≡ some e → least ≤ e.second
    unfolding rows_under
    under_least k end i e = absurd (not_some e)
    under_least k (next l p s) zero e = rw (← some_is e) l
    under_least k (next l p s) (suc i) e = let h = under_least k s i e in omega (arith, h, l)

    under_rise : (k : ℕ) {least : ℕ} {u : Table X} → Sorted P least u → (i j : ℕ) {e f : Listed X} → i < j → get_elem? (rows_under k u) i ≡ some e → get_elem? (rows_under k u) j ≡ some f → e.second < f.second
    unfolding rows_under
    under_rise k end i j h e f = absurd (not_some e)
    under_rise k (next l p s) i zero h e f = absurd (omega arith)
    under_rise k (next l p s) zero (suc j) h e f = rw (← some_is e) (let g = under_least k s j f in omega (arith, g))
    under_rise k (next l p s) (suc i) (suc j) h e f = under_rise k s i j (omega arith) e f

    module _ {Q : ℕ → Table X → Type 0} (sorted : (k : ℕ) (u : Table X) → Q k u → Sorted P 0 u) where
      groups_least : {least : ℕ} {t : Table (Table X)} → Sorted Q least t → (i : ℕ) {e : Listed X} → get_elem? (group_rows t) i ≡ some e → least ≤ e.first
      unfolding group_rows
      groups_least end i e = absurd (not_some e)
      groups_least (next {k = k} {v = u} {t = t} l p s) i e =
          ⊎_elim
          (λ h. let q = (under_has k u i h.1).0 in omega (arith, q, l))
          (λ h. let g = groups_least s h.0 h.2 in omega (arith, g, l))
          (side (rows_under k u) (group_rows t) i e)

      groups_rise : {least : ℕ} {t : Table (Table X)} → Sorted Q least t → (i j : ℕ) {e f : Listed X} → i < j → get_elem? (group_rows t) i ≡ some e → get_elem? (group_rows t) j ≡ some f → (e.first < f.first) ⊎ ((e.first ≡ f.first) × (e.second < f.second))
      unfolding group_rows
      groups_rise end i j h e f = absurd (not_some e)
      groups_rise (next {k = k} {v = u} {t = t} l p s) i j h e f =
          ⊎_elim
          (λ a. let one = (under_has k u i a.1).0 in
          ⊎_elim
          (λ b. inr (one ∙ sym (under_has k u j b.1).0, under_rise k (sorted k u p) i j h a.1 b.1))
          (λ b. inl (let g = groups_least s b.0 b.2 in omega (arith, g, one)))
          (side (rows_under k u) (group_rows t) j f))
          (λ a. ⊎_elim
          (λ b. absurd (let x = a.1 in let y = b.0 in omega (arith, x, y, h)))
          (λ b. groups_rise s a.0 b.0 (let x = a.1 in let y = b.1 in omega (arith, x, y, h)) a.2 b.2)
          (side (rows_under k u) (group_rows t) j f))
          (side (rows_under k u) (group_rows t) i e)

-- of hints: every pair that answers, with its answer
module _ (es : List OlderEntry) where
  abbrev pub rows : List (Listed Hint)
  rows = group_rows (sorted_from nil es)

  ordered : Sorted (Group Any) 0 (sorted_from nil es)
  ordered = sorted_entries (any_numbers es)

  row_answers : (i : ℕ) {e : Listed Hint} → get_elem? rows i ≡ some e → first_in e.first e.second es ≡ some e.held
  row_answers i {e} there = sym (first_found e.first e.second es) ∙ (within_exactly (λ k u g. g.sorted) e.first e.second ordered e.held).1 (groups_have (sorted_from nil es) i there)

  answer_row : (f o : ℕ) {x : Hint} → first_in f o es ≡ some x → (i : ℕ) × (get_elem? rows i ≡ some (record { first = f; second = o; held = x }))
  answer_row f o {x} e =
      let w = (within_exactly (λ k u g. g.sorted) f o ordered x).0 (first_found f o es ∙ e) in
      have_groups w.outer w.inner

  rows_rise : (i j : ℕ) {e f : Listed Hint} → i < j → get_elem? rows i ≡ some e → get_elem? rows j ≡ some f → (e.first < f.first) ⊎ ((e.first ≡ f.first) × (e.second < f.second))
  rows_rise i j h = groups_rise (λ k u g. g.sorted) ordered i j h

-- WHAT THE LISTS HOLD AFTERWARDS
module _ (p fs os ks fs' os' ks' : List ℕ) (a : WmAnswer) (w : WmLists older_columns (older_rows p) (fs ∷ os ∷ ks ∷ []) (fs' ∷ os' ∷ ks' ∷ []) a) where
  abbrev three : List (List ℕ)
  three = fs ∷ os ∷ ks ∷ []

  pub older_came : Came older_columns (map_judged (λ es. some (rows es)) (judge_older 0 p)) three (fs' ∷ os' ∷ ks' ∷ []) a
  unfolding older_rows
  older_came = came older_columns (older_rows p) three (fs' ∷ os' ∷ ks' ∷ []) a w

  -- the rows, or nothing
  record Put (es : List OlderEntry) : Type 0 where
    judged : judge_older 0 p ≡ accepted es
    answer_is : a ≡ wm_found 0 0 (length (rows es))
    functions_fit : length (rows es) ≤ length fs
    offsets_fit : length (rows es) ≤ length os
    likely_fit : length (rows es) ≤ length ks
    functions_are : fs' ≡ map (λ e. e.first) (rows es) ++ drop (length (map (λ e. e.first) (rows es))) fs
    offsets_are : os' ≡ map (λ e. e.second) (rows es) ++ drop (length (map (λ e. e.second) (rows es))) os
    likely_are : ks' ≡ map (λ e. kind_number e.held) (rows es) ++ drop (length (map (λ e. kind_number e.held) (rows es))) ks

  record Kept (n at : ℕ) : Type 0 where
    answer_is : a ≡ wm_refused n at
    functions_are : fs' ≡ fs
    offsets_are : os' ≡ os
    likely_are : ks' ≡ ks

  kept : {n at : ℕ} → a ≡ wm_refused n at → fs' ∷ os' ∷ ks' ∷ [] ≡ three → Kept n at
  kept q same = record { answer_is = q; functions_are = cc; offsets_are = cc; likely_are = cc }

  both_fit : (n : ℕ) → fit_each n three ≡ true → (n ≤ length fs) × (n ≤ length os) × (n ≤ length ks)
  unfolding fit_each
  both_fit n e =
      by_test (leb n (length fs))
      (λ f. by_test (leb n (length os))
      (λ o. by_test (leb n (length ks))
      (λ k. (leb-true n (length fs) f, leb-true n (length os) o, leb-true n (length ks) k))
      (λ k. false_true (rw (f, o, k) at e)))
      (λ o. false_true (rw (f, o) at e)))
      (λ f. false_true (rw f at e))

  put : {es : List OlderEntry} → judge_older 0 p ≡ accepted es → fit_each (length (rows es)) three ≡ true → a ≡ wm_found 0 0 (length (rows es)) → fs' ∷ os' ∷ ks' ∷ [] ≡ over_each older_columns (rows es) three → Put es
  unfolding over_each
  put {es} judged t q same =
      let (f, o, k) = both_fit (length (rows es)) t in
      record { judged = judged; answer_is = q; functions_fit = f; offsets_fit = o; likely_fit = k; functions_are = cc; offsets_are = cc; likely_are = cc }

  on_listed {ℓ} : {C : Type ℓ} → ((es : List OlderEntry) → Put es → C) → ((n at : ℕ) → Kept n at → C) → C
  on_listed {C} f g = of older_came
    where
      of : Came older_columns (map_judged (λ es. some (rows es)) (judge_older 0 p)) three (fs' ∷ os' ∷ ks' ∷ []) a → C
      of (came_refused n at e q same) = g n at (kept q same)
      of (came_none_lem e q same) = mapped (λ es. some (rows es)) (judge_older 0 p) e λ es e₁ e₂. absurd (not_some (sym e₂))
      of (came_short rs e t q same) = g 13 (length rs) (kept q same)
      of (came_listed rs e t q same) = mapped (λ es. some (rows es)) (judge_older 0 p) e λ es e₁ e₂. let is = some_is e₂ in f es (put e₁ (rw is t) (rw is q) (rw is same))

  column_left : (column : Listed Hint → ℕ) (old : List ℕ) {new : List ℕ} (es : List OlderEntry) → length (rows es) ≤ length old → new ≡ map column (rows es) ++ drop (length (map column (rows es))) old → a ≡ wm_found 0 0 (length (rows es)) → Leaves old new a
  column_left column old es room is e = let many = length-map (rows es) column in put_first (map column (rows es)) old 0 (rw many room) is (e ∙ rw many)

  pub functions_listed : Leaves fs fs' a
  functions_listed = on_listed (λ es x. column_left (λ e. e.first) fs es x.functions_fit x.functions_are x.answer_is) (λ n at x. put_nothing n at x.functions_are x.answer_is)

  pub offsets_listed : Leaves os os' a
  offsets_listed = on_listed (λ es x. column_left (λ e. e.second) os es x.offsets_fit x.offsets_are x.answer_is) (λ n at x. put_nothing n at x.offsets_are x.answer_is)

  pub likely_listed : Leaves ks ks' a
  likely_listed = on_listed (λ es x. column_left (λ e. kind_number e.held) ks es x.likely_fit x.likely_are x.answer_is) (λ n at x. put_nothing n at x.likely_are x.answer_is)

  -- THE ROWS among them: of a refusal there are none
  module _ {es : List OlderEntry} (x : Put es) where
    many : a.length ≡ length (rows es)
    many = ap (λ (a : WmAnswer). a.length) x.answer_is

    column_at : (column : Listed Hint → ℕ) (old : List ℕ) {new : List ℕ} (i : ℕ) {e : Listed Hint} → new ≡ map column (rows es) ++ drop (length (map column (rows es))) old → get_elem? (rows es) i ≡ some e → get_elem? new i ≡ some (column e)
    column_at column old i is there =
        first_of (map column (rows es)) (drop (length (map column (rows es))) old) i is (let l = at_inside (rows es) i there in let m = length-map (rows es) column in omega (arith, l, m)) ∙ map_at column (rows es) i there

    row_there : (i : ℕ) {e : Listed Hint} → get_elem? (rows es) i ≡ some e → RowAt a.length fs' os' ks' i e.first e.second (kind_number e.held)
    row_there i there = record {
      listed = let l = at_inside (rows es) i there in omega (arith, l, many);
      function_is = column_at (λ e. e.first) fs i x.functions_are there;
      offset_is = column_at (λ e. e.second) os i x.offsets_are there;
      kind_is = column_at (λ e. kind_number e.held) ks i x.likely_are there;
    }

    record IsRow (i f o k : ℕ) : Type 0 where
      row_is : Listed Hint
      there : get_elem? (rows es) i ≡ some row_is
      function_is : row_is.first ≡ f
      offset_is : row_is.second ≡ o
      kind_is : kind_number row_is.held ≡ k

    is_row : {i f o k : ℕ} → RowAt a.length fs' os' ks' i f o k → IsRow i f o k
    is_row {i} r =
        let l = r.listed in
        let (e, there) = at_there (rows es) i (omega (arith, l, many)) in
        let q = row_there i there in
        record { row_is = e; there = there; function_is = some_is (sym q.function_is ∙ r.function_is); offset_is = some_is (sym q.offset_is ∙ r.offset_is); kind_is = some_is (sym q.kind_is ∙ r.kind_is) }

    asked : (f o : ℕ) → ask_older (record { 0 = f }) (record { 0 = o }) 0 p ≡ accepted (first_in f o es)
    unfolding ask_older
    asked f o = rw x.judged

  none_after : {n at i f o k : ℕ} → Kept n at → RowAt a.length fs' os' ks' i f o k → ⊥
  none_after x r = let l = r.listed in let z = ap (λ (a : WmAnswer). a.length) x.answer_is in omega (arith, l, z)

  kind_said : (h : Hint) → (wm_hint (accepted (some h))).kind ≡ 3 + kind_number h
  kind_said Unlikely = refl
  kind_said Likely = refl

  pub row_told : (i f o k : ℕ) → RowAt a.length fs' os' ks' i f o k → (b : WmAnswer) → b ≡ wm_hint (ask_older (record { 0 = f }) (record { 0 = o }) 0 p) → b.kind ≡ 3 + k
  row_told i f o k r b e =
      on_listed
      (λ es x.
      let q = is_row x r in
      let answer : first_in f o es ≡ some q.row_is.held = rw (q.function_is, q.offset_is) at (row_answers es i q.there) in
      ap (λ (b : WmAnswer). b.kind) (e ∙ ap wm_hint (asked x f o ∙ ap accepted answer)) ∙ kind_said q.row_is.held ∙ ap (λ k. 3 + k) q.kind_is)
      (λ n at x. absurd (none_after x r))

  accepted_only : a.kind ≡ 1 → {n at : ℕ} → Kept n at → ⊥
  accepted_only one x = let z = ap (λ (a : WmAnswer). a.kind) x.answer_is in omega (arith, one, z)

  pub every_row : a.kind ≡ 1 → (f o : ℕ) (b : WmAnswer) → b ≡ wm_hint (ask_older (record { 0 = f }) (record { 0 = o }) 0 p) → b.kind ≢ 0 → (i k : ℕ) × RowAt a.length fs' os' ks' i f o k
  every_row one f o b e some_hint =
      on_listed
      (λ es x. by_option (first_in f o es)
      (λ q. absurd (some_hint (ap (λ (b : WmAnswer). b.kind) (e ∙ ap wm_hint (asked x f o ∙ ap accepted q)))))
      (λ h q. let (i, there) = answer_row es f o q in (i, kind_number h, row_there x i there)))
      (λ n at x. absurd (accepted_only one x))

  pub no_row : a.kind ≡ 1 → (f o : ℕ) (b : WmAnswer) → b ≡ wm_hint (ask_older (record { 0 = f }) (record { 0 = o }) 0 p) → ((i k : ℕ) → RowAt a.length fs' os' ks' i f o k → ⊥) → b ≡ wm_none
  no_row one f o b e none_there =
      on_listed
      (λ es x. by_option (first_in f o es)
      (λ q. e ∙ ap wm_hint (asked x f o ∙ ap accepted q))
      (λ h q. let (i, there) = answer_row es f o q in absurd (none_there i (kind_number h) (row_there x i there))))
      (λ n at x. absurd (accepted_only one x))

  pub rows_risen : (i j f g o u k l : ℕ) → i < j → RowAt a.length fs' os' ks' i f o k → RowAt a.length fs' os' ks' j g u l → (f < g) ⊎ ((f ≡ g) × (o < u))
  rows_risen i j f g o u k l h r s =
      on_listed
      (λ es x. let q = is_row x r in let v = is_row x s in rw (q.function_is, v.function_is, q.offset_is, v.offset_is) at (rows_rise es i j h q.there v.there))
      (λ n at x. absurd (none_after x r))
