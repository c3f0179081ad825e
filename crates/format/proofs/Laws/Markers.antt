-- K8. Asked with the markers that were made from the payload, the quick question answers as the full one.
use Prim.Native.Nat.{ℕ, zero, suc, ◌≤◌, ◌<◌}
use mathlib.Core.List.{List, [], ◌∷◌, map}
use Rattle.std.proofs.Math.Option.{Option, none, some}
use Rattle.std.specs.Prelude.{◌≡◌, leb, eqb, length, take}
use Rattle.std.proofs.Math.Path.{refl, sym, ap}
use Rattle.std.proofs.Common.{◌∙◌, arith}
use borrow.Author.Tests.{lt-ltb, le-leb, lt-leb, leb-true, leb-false, ne_eqb}
use Rattle.std.proofs.lemmas.List.{length-map}
use Rattle.format.specs.Reading.{accepted}
use Rattle.format.specs.Numbers.{groups, number, limit32}
use Rattle.format.specs.Parts.{Part}
use Rattle.format.specs.Tables.{Table, lookup}
use Rattle.format.specs.Names.{Content, names, known_kind, judge_names}
use Rattle.format.specs.Questions.{answer, asked, ask_at, ask}
use Rattle.format.specs.Markers.{Entry, entry, thinned, Markers, markers_of, indices_of, offsets_of, first_fault, last_not_above, first_with, from_marker, quick}
use Rattle.format.specs.Laws.Outcomes.{accepted_is, by_test, followed}
use Rattle.format.proofs.Laws.Tables.{lookup_there, lookup_below}
use Rattle.format.proofs.Laws.Passing.{number_passes}
use Rattle.format.proofs.Laws.Walk.{Onward, onward_step}
use Rattle.format.proofs.Laws.MarkerEntries.{entry_passes, Standing, no_entry, an_entry, standing_far, standing_sorted}
use Rattle.format.specs.Laws.MarkerFaults.{no_fault_exactly}
use Rattle.format.proofs.Laws.MarkerRule.{quick_answers}
use Rattle.format.proofs.Laws.MarkerParts.{end_of, MarkersIn, no_functions, of_functions, markers_stand}
use Rattle.format.specs.declared.FunctionIndex.{FunctionIndex}
use Rattle.format.specs.declared.Question.TheVariants.{FunctionName}

-- the two lists that are made of entries
abbrev indices : List Entry → List ℕ
indices es = map (λ e. e.index) es

abbrev offsets : List Entry → List ℕ
offsets es = map (λ e. e.offset) es

-- MARKERS HAVE NO FAULT: they rise, and stand before the end
module _ {last : ℕ} {left : List ℕ} (end : ℕ) (inside : last ≤ end) where
  pub no_fault : (before position least_index least_offset : ℕ) {least o : ℕ} {bs : List ℕ} {es : List Entry} {t : Table Part} → Standing last left least o bs es t → least_index ≤ least → least_offset ≤ o → first_fault end position least_index least_offset (indices (thinned before es)) (offsets (thinned before es)) ≡ none
  unfolding first_fault thinned
  no_fault before i x y no_entry a b = refl
  no_fault zero i x y (an_entry {o = o} {k = k} above far here s) a b =
      rw (le-leb x k (omega arith), le-leb y o b, lt-ltb o end (omega (arith, standing_far s))) (no_fault 15 (suc i) (suc k) (suc o) s (omega arith) (omega arith))
  no_fault (suc before) i x y (an_entry above far here s) a b = no_fault before i x y s (omega arith) (omega arith)

-- THE START AND THE ANSWER, for an index asked
module _ (key : ℕ) where
  -- where all indices are above it, no marker is taken and no entry answers
  none_taken : {last : ℕ} {left : List ℕ} (before : ℕ) (held : Option ℕ) {least o : ℕ} {bs : List ℕ} {es : List Entry} {t : Table Part} → Standing last left least o bs es t → key < least → last_not_above key held (indices (thinned before es)) (offsets (thinned before es)) ≡ held
  unfolding last_not_above thinned
  none_taken before held no_entry h = refl
  none_taken zero held (an_entry {k = k} above far here s) h = rw (lt-leb k key (omega arith)) (none_taken 15 held s (omega arith))
  none_taken (suc before) held (an_entry above far here s) h = none_taken before held s (omega arith)

  nothing_left : (most o : ℕ) → first_with most key o [] ≡ none
  unfolding first_with entry number groups
  nothing_left zero o = refl
  nothing_left (suc most) o = refl

  none_answers : {last : ℕ} (most : ℕ) {least o : ℕ} {bs : List ℕ} {es : List Entry} {t : Table Part} → Standing last [] least o bs es t → key < least → first_with most key o bs ≡ none
  unfolding first_with
  none_answers zero s h = refl
  none_answers (suc most) no_entry h = nothing_left (suc most) _
  none_answers (suc most) (an_entry {k = k} above far here s) h = rw (here, ne_eqb key k (λ e. omega arith)) (none_answers most s (omega arith))

  -- so many entries are enough: behind them is none, or one above the index asked
  data Enough : (most : ℕ) → List Entry → Type 0 where
    all_read : {most : ℕ} → Enough most []
    beyond : {most : ℕ} {e : Entry} {es : List Entry} → key < e.index → Enough most (e ∷ es)
    one_read : {most : ℕ} {e : Entry} {es : List Entry} → Enough most es → Enough (suc most) (e ∷ es)

  -- then the first of them with that index is the table's row
  enough_answers : {last : ℕ} {most least o : ℕ} {bs : List ℕ} {es : List Entry} {t : Table Part} → Standing last [] least o bs es t → Enough most es → first_with most key o bs ≡ lookup key t
  unfolding first_with lookup
  enough_answers {most = most} no_entry all_read = nothing_left most _
  enough_answers {most = most} (an_entry {k = k} above far here s) (beyond h) =
      let all = an_entry {least = k} {k = k} (omega arith) far here s in
      none_answers most all h ∙ sym (lookup_below key (standing_sorted all) h)
  enough_answers (an_entry {k = k} above far here s) (one_read n) =
      rw here (by_test (eqb key k) (λ q. rw q) (λ q. rw q (enough_answers s n)))

  -- From the markers on every sixteenth entry the answer is the table's row. `held` is the last marker not above the index so far; `found` is what is to be found
  module _ (whole : List ℕ) (end : ℕ) (found : Option Part) where
    from_here : {least o : ℕ} {bs : List ℕ} {es : List Entry} {t : Table Part} → Onward (take end whole) o bs → Standing end [] least o bs es t → Enough 16 es → from_marker whole end key (some o) ≡ lookup key t
    unfolding from_marker
    from_here there s n = rw (← there) (enough_answers s n)

    -- no marker at all: all are above
    nothing_before : {least o : ℕ} {bs : List ℕ} {es : List Entry} {t : Table Part} → Standing end [] least o bs es t → Enough 0 es → from_marker whole end key none ≡ lookup key t
    unfolding from_marker lookup
    nothing_before no_entry all_read = refl
    nothing_before (an_entry {k = k} above far here s) (beyond h) = sym (lookup_below key (standing_sorted (an_entry {least = k} (omega arith) far here s)) h)

    taken_answers : (before : ℕ) (held : Option ℕ) {least o : ℕ} {bs : List ℕ} {es : List Entry} {t : Table Part} → Standing end [] least o bs es t → Onward (take end whole) o bs → (Enough before es → from_marker whole end key held ≡ found) → (least ≤ key → lookup key t ≡ found) → from_marker whole end key (last_not_above key held (indices (thinned before es)) (offsets (thinned before es))) ≡ found
    unfolding last_not_above thinned
    taken_answers before held no_entry there enough rest = enough all_read
    taken_answers (suc before) held {o = o} {bs = bs} (an_entry {k = k} {text = text} {t = t} above far here s) there enough rest =
        taken_answers before held s (entry_passes (Onward (take end whole)) (onward_step (take end whole)) o bs _ _ _ there here)
        (λ n. enough (one_read n))
        (λ h. sym (lookup_there key k text t (λ e. omega arith)) ∙ rest (omega arith))
    taken_answers zero held {o = o} {bs = bs} (an_entry {k = k} {text = text} {t = t} above far here s) there enough rest =
        by_test (leb k key)
        (λ q. rw q (taken_answers 15 (some o) s (entry_passes (Onward (take end whole)) (onward_step (take end whole)) o bs _ _ _ there here)
        (λ n. from_here there (an_entry above far here s) (one_read n) ∙ rest (omega (arith, leb-true k key q)))
        (λ h. sym (lookup_there key k text t (λ e. omega arith)) ∙ rest (omega arith))))
        (λ q. rw (q, none_taken 15 held s (omega (arith, leb-false k key q))) (enough (beyond (leb-false k key q))))

    -- at the beginning none is held
    pub markers_answer : {o : ℕ} {bs : List ℕ} {es : List Entry} {t : Table Part} → Standing end [] 0 o bs es t → Onward (take end whole) o bs → lookup key t ≡ found → from_marker whole end key (last_not_above key none (indices (thinned 0 es)) (offsets (thinned 0 es))) ≡ found
    markers_answer {t = t} s there is = taken_answers 0 none s there (λ n. nothing_before s n ∙ is) (λ _. is)

-- so the whole question: nothing is refused
quick_accepts : (bs : List ℕ) (marked : List Entry) (end : ℕ) (f : FunctionIndex) → length bs < limit32 → end ≤ length bs → first_fault end 0 0 0 (indices marked) (offsets marked) ≡ none → quick bs (indices marked) (offsets marked) end f ≡ accepted (from_marker bs end f.0 (last_not_above f.0 none (indices marked) (offsets marked)))
quick_accepts bs marked end f short inside e =
    let equal : length (indices marked) ≡ length (offsets marked) = length-map marked _ ∙ sym (length-map marked _) in
    quick_answers bs (indices marked) (offsets marked) end f short equal inside ((no_fault_exactly end (indices marked) (offsets marked) equal).0 e)

-- what the full question answers, by the subsection of function names
module _ (bs : List ℕ) (f : FunctionIndex) {t : Table (Content Part)} (e : judge_names known_kind 0 bs ≡ accepted t) where
  asked_nothing : lookup 1 t ≡ none → ask known_kind (FunctionName f) bs ≡ accepted none
  unfolding ask ask_at asked answer
  asked_nothing h = rw (e, h)

  asked_rows : {rows : Table Part} → lookup 1 t ≡ some (names rows) → ask known_kind (FunctionName f) bs ≡ accepted (lookup f.0 rows)
  unfolding ask ask_at asked answer
  asked_rows h = rw (e, h)

  quick_as_asked : {m : Markers} → length bs < limit32 → MarkersIn bs t m → quick bs (indices_of m) (offsets_of m) m.end f ≡ ask known_kind (FunctionName f) bs
  unfolding first_fault last_not_above from_marker
  quick_as_asked short (no_functions part h) = quick_accepts bs [] 0 f short (omega arith) refl ∙ sym (asked_nothing h)
  quick_as_asked short (of_functions {p = p} g) =
      let its = g.map.its in
      let there = number_passes (Onward (take (end_of p) bs)) (onward_step (take (end_of p) bs)) p.at p.bytes _ _ _ (sym g.bytes) g.map.counted in
      quick_accepts bs (thinned 0 its.all) (end_of p) f short g.inside (no_fault (end_of p) (omega arith) 0 0 0 0 its.stand (omega arith) (omega arith))
      ∙ ap accepted (markers_answer f.0 bs (end_of p) _ its.stand there refl)
      ∙ sym (asked_rows g.held)

pub own_markers : (bs : List ℕ) {m : Markers} → markers_of bs ≡ accepted m → length bs < limit32 → (f : FunctionIndex) → quick bs (indices_of m) (offsets_of m) m.end f ≡ ask known_kind (FunctionName f) bs
unfolding markers_of
own_markers bs e short f =
    followed (judge_names known_kind 0 bs) _ e λ t e₁ e₂.
    let (m, is, stand) = markers_stand bs e₁ in
    rw (← accepted_is (sym is ∙ e)) (quick_as_asked bs f e₁ short stand)
