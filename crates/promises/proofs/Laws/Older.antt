-- K2: what the calls for hints of the older edition come to.
use Rattle.std.specs.Prelude.{ℕ, zero, suc, ◌<◌, Bool, true, false, cond, ◌&&◌, ◌↔◌, ◌≢◌, ◌≡◌, eqb, leb, length, take}
use mathlib.Core.List.{List, [], ◌∷◌, ◌++◌}
use Rattle.std.proofs.Math.Logic.Iff
use Rattle.std.proofs.Math.Option.{Option, none, some}
use Rattle.std.proofs.Math.Path.{refl}
use Rattle.std.proofs.Common.{sym, ap, ◌∙◌, arith}
use borrow.Author.Tests.{eqb-true, eq-eqb, leb-true, leb-false, le-leb, lt-leb}
use Rattle.std.proofs.Math.ListN.{get_elem?}
use Rattle.format.specs.Bytes.{ascii}
use Rattle.format.proofs.Laws.CanonicalOlder.{order_shorter}
use Rattle.format.specs.Laws.Options.{not_some, some_is, by_option}
use Rattle.format.specs.Laws.Outcomes.{not_accepted, by_test, on_both, refused_exactly, accepted_exactly}
use Rattle.format.specs.Lists.{unsorted_at}
use Rattle.format.specs.Numbers.{number, groups}
use Rattle.format.specs.Older.{OlderHint, OlderEntry, vector, judge_older, first_at, first_in, ask_older, sorted_from, write_older, not_too_long, canonical_older}
use Rattle.format.specs.OlderInOrder.{rising_hints, rising_entries}
use Rattle.format.specs.Options.{or_else}
use Rattle.format.specs.Reading.{Judged, accepted, refused, judged_then, Accepted}
use Rattle.format.specs.Tables.{nil}
use Rattle.format.proofs.Theorems.{older_in_order}
use Rattle.format.specs.Walk.{hint_section, older_hint_section}
use Rattle.format.specs.declared.FunctionIndex.{FunctionIndex}
use Rattle.format.specs.declared.Hint.{Hint}
use Rattle.format.specs.declared.Hint.TheVariants.{Unlikely, Likely}
use Rattle.format.specs.declared.InstructionOffset.{InstructionOffset}
use Rattle.grammar.proofs.Laws.Older.{older_complete}
use Rattle.grammar.specs.Older.{OlderHints}
use Rattle.wakemiono.specs.Boundary.{wm_refused, wm_hint, WmWrites}
use Rattle.wakemiono.specs.declared.WmAnswer.{WmAnswer}
use Rattle.promises.specs.Demands.{from_function, in_file, FirstHint, functions_of, offsets_of, InOrder, by_aFault, too_short, OlderRefused, older_fault, older_too_long, older_too_short}
use Rattle.promises.proofs.Laws.Exactly.{RefusedBy, JudgedOrShort, as_refused, as_short, written_exactly}
use Rattle.grammar.proofs.Laws.Faults.Writing.{rising_of}
use Rattle.promises.specs.Laws.Outputs.{wrote, wrote_first}
use Rattle.promises.specs.Laws.Refusing.{older_not_15}
use Rattle.promises.specs.Laws.Saying.{Verdict, unlikely_said, likely_said, no_hint_said, hint_refused_said}
use Rattle.promises.specs.RuledOut.{not_both}

-- THE FIRST HINT for a pair, in a list of all with their functions
module _ (f o : ℕ) where
  abbrev is_for : ℕ × ℕ × Hint → Bool
  is_for x = eqb f x.0 && eqb o x.1

  abbrev first_for : List (ℕ × ℕ × Hint) → Option Hint
  first_for [] = none
  first_for (x ∷ xs) = cond (is_for x) (some x.2) (first_for xs)

  first_append : (xs ys : List (ℕ × ℕ × Hint)) → first_for (xs ++ ys) ≡ or_else (first_for xs) (first_for ys)
  first_append [] ys = refl
  first_append (x ∷ xs) ys = by_test (is_for x) (λ t. rw t) (λ t. rw t (first_append xs ys))

  of_function : (g : ℕ) (hs : List OlderHint) → first_for (from_function g hs) ≡ cond (eqb f g) (first_at o hs) none
  unfolding first_at
  of_function g [] = by_test (eqb f g) (λ t. rw t) (λ t. rw t)
  of_function g (h ∷ hs) =
      by_test (eqb f g)
      (λ t. let more : first_for (from_function g hs) ≡ first_at o hs = of_function g hs ∙ rw t in rw (t, more))
      (λ t. let more : first_for (from_function g hs) ≡ none = of_function g hs ∙ rw t in rw (t, more))

  in_file_lem : (es : List OlderEntry) → first_in f o es ≡ first_for (in_file es)
  unfolding first_in
  in_file_lem [] = refl
  in_file_lem (e ∷ es) =
      let joined = first_append (from_function e.function e.hints) (in_file es) in
      let first = of_function e.function e.hints in
      by_test (eqb f e.function) (λ t. rw (t, joined, first, t, in_file_lem es)) (λ t. rw (t, joined, first, t, in_file_lem es))

  -- what stands at a position is for the pair exactly where the test says so
  is_for_lem : (x : ℕ × ℕ × Hint) {k : Hint} → x ≡ (f, o, k) → is_for x ≡ true
  is_for_lem x e = rw (e, eq-eqb f f refl, eq-eqb o o refl)

  for_it : (x : ℕ × ℕ × Hint) → is_for x ≡ true → x ≡ (f, o, x.2)
  for_it x t = on_both (eqb f x.0) (eqb o x.1) t λ t₁ t₂. let e₁ = sym (eqb-true f x.0 t₁) in let e₂ = sym (eqb-true o x.1 t₂) in λ i. (e₁ i, e₂ i, x.2)

  abbrev First : List (ℕ × ℕ × Hint) → Hint → Type 0
  First xs k = (i : ℕ) × (get_elem? xs i ≡ some (f, o, k)) × ((j : ℕ) (l : Hint) → j < i → get_elem? xs j ≡ some (f, o, l) → ⊥)

  to_first : (xs : List (ℕ × ℕ × Hint)) (k : Hint) → first_for xs ≡ some k → First xs k
  to_first [] k e = absurd (not_some e)
  to_first (x ∷ xs) k e =
      by_test (is_for x)
      (λ t. let kind : x.2 ≡ k = some_is (rw t at e) in (0, ap some (for_it x t ∙ ap (λ l. (f, o, l)) kind), λ j l h. absurd (omega arith)))
      (λ t. let (i, there, before) = to_first xs k (rw t at e) in (suc i, there, none_before x t xs i before))
    where
      none_before : (x : ℕ × ℕ × Hint) → is_for x ≡ false → (xs : List (ℕ × ℕ × Hint)) (i : ℕ) → ((j : ℕ) (l : Hint) → j < i → get_elem? xs j ≡ some (f, o, l) → ⊥) → (j : ℕ) (l : Hint) → j < suc i → get_elem? (x ∷ xs) j ≡ some (f, o, l) → ⊥
      none_before x t xs i before zero l h e = not_both (sym (is_for_lem x (some_is e)) ∙ t)
      none_before x t xs i before (suc j) l h e = before j l (omega arith) e

  from_first : (xs : List (ℕ × ℕ × Hint)) (k : Hint) (i : ℕ) → get_elem? xs i ≡ some (f, o, k) → ((j : ℕ) (l : Hint) → j < i → get_elem? xs j ≡ some (f, o, l) → ⊥) → first_for xs ≡ some k
  from_first [] k i e before = absurd (not_some e)
  from_first (x ∷ xs) k zero e before = rw (is_for_lem x (some_is e)) (ap (λ (y : ℕ × ℕ × Hint). some y.2) (some_is e))
  from_first (x ∷ xs) k (suc i) e before =
      by_test (is_for x)
      (λ t. absurd (before 0 x.2 (omega arith) (ap some (for_it x t))))
      (λ t. rw t (from_first xs k i e (λ j l h e'. before (suc j) l (omega arith) e')))

  no_first : (xs : List (ℕ × ℕ × Hint)) (i : ℕ) (k : Hint) → first_for xs ≡ none → get_elem? xs i ≡ some (f, o, k) → ⊥
  no_first [] i k n e = not_some e
  no_first (x ∷ xs) zero k n e = not_some (sym (rw (is_for_lem x (some_is e)) at n))
  no_first (x ∷ xs) (suc i) k n e = by_test (is_for x) (λ t. not_some (sym (rw t at n))) (λ t. no_first xs i k (rw t at n) e)

  first_exactly : (es : List OlderEntry) (k : Hint) → (first_in f o es ≡ some k) ↔ FirstHint f o es k
  first_exactly es k = (λ e. to_first (in_file es) k (sym (in_file_lem es) ∙ e), λ h. in_file_lem es ∙ from_first (in_file es) k h.0 h.1 h.2)

  none_exactly : (es : List OlderEntry) → (first_in f o es ≡ none) ↔ ((i : ℕ) (k : Hint) → get_elem? (in_file es) i ≡ some (f, o, k) → ⊥)
  none_exactly es = (
    λ e i k. no_first (in_file es) i k (sym (in_file_lem es) ∙ e),
    λ h. by_option (first_in f o es) (λ e. e) (λ k e. let (i, there, _) = (first_exactly es k).0 e in absurd (h i k there)),
  )

-- What the call says, by what the grammar's meaning has first
module _ (f : FunctionIndex) (o : InstructionOffset) (p : List ℕ) (a : WmAnswer) (meets : a ≡ wm_hint (ask_older f o 0 p)) where
  module _ (m : List OlderEntry) (g : OlderHints p m) where
    asked : ask_older f o 0 p ≡ accepted (first_in f.0 o.0 m)
    unfolding ask_older
    asked = let (v, e, same) = older_complete 0 p m g in rw (e, same)

    says : {h : Option Hint} → (ask_older f o 0 p ≡ accepted h) ↔ (first_in f.0 o.0 m ≡ h)
    says = accepted_exactly asked

    pub older_likely : (a.kind ≡ 4) ↔ FirstHint f.0 o.0 m Likely
    older_likely = rw meets (Iff.trans (likely_said (ask_older f o 0 p)) (Iff.trans says (first_exactly f.0 o.0 m Likely)))

    pub older_unlikely : (a.kind ≡ 3) ↔ FirstHint f.0 o.0 m Unlikely
    older_unlikely = rw meets (Iff.trans (unlikely_said (ask_older f o 0 p)) (Iff.trans says (first_exactly f.0 o.0 m Unlikely)))

    pub older_none : (a.kind ≡ 0) ↔ ((i : ℕ) (k : Hint) → get_elem? (in_file m) i ≡ some (f.0, o.0, k) → ⊥)
    older_none = rw meets (Iff.trans (no_hint_said (ask_older f o 0 p)) (Iff.trans says (none_exactly f.0 o.0 m)))

  pub older_hint_refused : {j : WmAnswer} → Verdict j (judge_older 0 p) → (n at : ℕ) → (a ≡ wm_refused n at) ↔ (j ≡ wm_refused n at)
  unfolding ask_older
  older_hint_refused judging n at = rw meets (Iff.trans (hint_refused_said (ask_older f o 0 p) n at) (Iff.trans (refused_exactly (first_in f.0 o.0) (judge_older 0 p)) ((judging.refusal n at).1, (judging.refusal n at).0)))

-- the sections of the two editions have names of other lengths
pub sections_apart : older_hint_section ≢ hint_section
unfolding hint_section ascii
sections_apart e = let long : ◌≡◌ {A = ℕ} 11 25 = ap length e in omega (arith, long)

-- THE REWRITING is refused as the payload is judged, then by 15, then by 13
module _ (p : List ℕ) (room : ℕ) where
  from_older : (j : Judged (List OlderEntry)) → judge_older 0 p ≡ j → (n at : ℕ) → JudgedOrShort (judged_then j (λ es. not_too_long (write_older (sorted_from nil es)))) length room n at → OlderRefused (RefusedBy (judge_older 0 p)) p room n at
  unfolding not_too_long
  from_older (accepted es) is n at r =
      by_test (leb (length (write_older (sorted_from nil es))) 4_294_967_295)
      (λ t. as_short refl (rw t at r) (λ n at. OlderRefused (RefusedBy (judge_older 0 p)) p room n at) (λ short. older_too_short is (leb-true (length (write_older (sorted_from nil es))) 4_294_967_295 t) short))
      (λ t. as_refused refl (rw t at r) (λ n at. OlderRefused (RefusedBy (judge_older 0 p)) p room n at) (older_too_long is (leb-false (length (write_older (sorted_from nil es))) 4_294_967_295 t)))
  from_older (refused m o) is n at r = as_refused refl r (λ n at. OlderRefused (RefusedBy (judge_older 0 p)) p room n at) (older_fault is)

  to_older : {n at : ℕ} → OlderRefused (RefusedBy (judge_older 0 p)) p room n at → JudgedOrShort (canonical_older p) length room n at
  unfolding canonical_older not_too_long
  to_older (older_fault {number} {offset} e) = by_aFault {number = number} {offset = offset} (rw e)
  to_older (older_too_long {es} e long) = by_aFault {number = 15} {offset = 0} (rw (e, lt-leb (length (write_older (sorted_from nil es))) 4_294_967_295 long))
  to_older (older_too_short {es} e small short) = too_short {v = write_older (sorted_from nil es)} (rw (e, le-leb (length (write_older (sorted_from nil es))) 4_294_967_295 small)) short

  pub older_refused : (n at : ℕ) → JudgedOrShort (canonical_older p) length room n at ↔ OlderRefused (RefusedBy (judge_older 0 p)) p room n at
  unfolding canonical_older
  older_refused n at = (from_older (judge_older 0 p) refl n at, λ r. to_older r)

-- 15 is no number of the judgement or of the output, and what is written is no longer than the payload
not_15 : {p : List ℕ} {room n at : ℕ} → length p < 4_294_967_296 → OlderRefused (RefusedBy (judge_older 0 p)) p room n at → n ≡ 15 → ⊥
not_15 {p} {at = at} small (older_fault e) is = older_not_15 0 p (rw is at e)
not_15 {p} small (older_too_long {es} e long) is = omega (arith, order_shorter (record { value = es; judged = e }), long, small)
not_15 small (older_too_short e fits short) is = omega (arith, is)

pub older_never_15 : (p old new : List ℕ) (a : WmAnswer) → length p < 4_294_967_296 → WmWrites (canonical_older p) old new a → (at : ℕ) → a ≡ wm_refused 15 at → ⊥
older_never_15 p old new a small w at e = not_15 small ((older_refused p (length old) 15 at).0 ((written_exactly (canonical_older p) w 15 at).0 e)) refl

-- no payload is empty: its count stands first
pub never_empty : (p : List ℕ) → Accepted (judge_older 0) p → (n at : ℕ) → canonical_older p ≡ refused n at → 0 < length p
unfolding judge_older vector number groups
never_empty [] a n at e = absurd (not_accepted a.judged)
never_empty (b ∷ p) a n at e = omega arith

-- IN ORDER
hints_rise : (position least : ℕ) (hs : List OlderHint) → rising_hints least hs ≡ true → unsorted_at position least (offsets_of hs) ≡ none
unfolding rising_hints unsorted_at
hints_rise position least [] r = refl
hints_rise position least (h ∷ hs) r = by_test (leb least h.offset) (λ t. rw t (hints_rise (suc position) (suc h.offset) hs (rw t at r))) (λ t. absurd (not_both (sym (rw t at r))))

-- by the two tests of an entry
first_rises : (least : ℕ) (e : OlderEntry) (es : List OlderEntry) → rising_entries least (e ∷ es) ≡ true → (leb least e.function ≡ true) × (rising_hints 0 e.hints ≡ true) × (rising_entries (suc e.function) es ≡ true)
unfolding rising_entries
first_rises least e es r =
    by_test (leb least e.function)
    (λ t. by_test (rising_hints 0 e.hints) (λ u. (t, u, rw (t, u) at r)) (λ u. absurd (not_both (sym (rw (t, u) at r)))))
    (λ t. absurd (not_both (sym (rw t at r))))

entries_rise : (position least : ℕ) (es : List OlderEntry) → rising_entries least es ≡ true → unsorted_at position least (functions_of es) ≡ none
unfolding unsorted_at
entries_rise position least [] r = refl
entries_rise position least (e ∷ es) r = let (t, _, more) = first_rises least e es r in rw t (entries_rise (suc position) (suc e.function) es more)

each_rises : (least : ℕ) (es : List OlderEntry) (i : ℕ) {e : OlderEntry} → rising_entries least es ≡ true → get_elem? es i ≡ some e → rising_hints 0 e.hints ≡ true
each_rises least [] i r is = absurd (not_some is)
each_rises least (e ∷ es) zero r is = let (_, u, _) = first_rises least e es r in rw (← some_is is) u
each_rises least (e ∷ es) (suc i) r is = let (_, _, more) = first_rises least e es r in each_rises (suc e.function) es i more is

in_order : (es : List OlderEntry) → rising_entries 0 es ≡ true → InOrder es
in_order es r = (rising_of 0 0 (functions_of es) (entries_rise 0 0 es r), λ i e is. rising_of 0 0 (offsets_of e.hints) (hints_rise 0 0 e.hints (each_rises 0 es i r is)))

pub older_ordered : (p old new : List ℕ) (a : WmAnswer) → WmWrites (canonical_older p) old new a → a.kind ≡ 1 → (m : List OlderEntry) → OlderHints (take a.length new) m → InOrder m
older_ordered p old new a w k m g =
    let one = wrote (canonical_older p) w k in
    let (v, e, same) = older_complete 0 (take a.length new) m g in
    let back : judge_older 0 one.bytes ≡ accepted m = ap (judge_older 0) (sym (wrote_first one)) ∙ e ∙ ap accepted same in
    in_order m (older_in_order p one.wants (record { value = m; judged = back }))
