-- K2: the reader of the older edition of hints stops exactly at their faults.
use Prim.Native.Nat.{ℕ, zero, suc, ◌+◌}
use Rattle.std.specs.Prelude.{List, [], ◌∷◌, ◌++◌, map, ◌≡◌, refl, eqb, leb}
use Rattle.std.proofs.Common.{append-nil, sym, ap, ◌∙◌, arith, leb-false, ne_eqb}
use Rattle.std.proofs.lemmas.Bool.{lt-leb, eqb-false}
use Rattle.std.proofs.Math.ListN.{length}
use Rattle.format.specs.Bytes.{Bytes}
use Rattle.format.specs.Reading.{got, stop, Reader, filling}
use Rattle.format.specs.Numbers.{number}
use Rattle.format.specs.Older.{OlderHint, OlderEntry, times, vector, zero_byte, older_kind, older_hint, older_entry}
use Rattle.format.specs.declared.Hint.{Hint}
use Rattle.format.specs.Laws.Tight.{bytes_after}
use Rattle.format.specs.Laws.Outcomes.{not_got, got_next, got_rest, by_test, in_turn, passed}
use Rattle.format.proofs.Laws.Passing.{Passes, Reaches, reach}
use Rattle.grammar.specs.Numbers.{Grammar}
use Rattle.grammar.specs.Older.{Vector, OlderKind, OlderBranchHint, FunctionBranchHints}
use Rattle.grammar.specs.Faults.Numbers.{Faults}
use Rattle.grammar.specs.Faults.Older.{TimesFault, in_the_next, further_on, VectorFault, in_the_count, in_the_entries, OlderKindFault, in_the_number, kind_above, OlderHintFault, in_the_kind, in_the_offset, OlderFunctionFault, in_the_function, missing, not_zero, in_the_hints, OlderFault}
use Rattle.grammar.proofs.Laws.Older.{vectors_exact, vector_exact, kind_exact, hint_exact, entry_exact, zero_read}
use Rattle.grammar.specs.Laws.Faults.Stops.{stop_number, stop_place, stops_in, stops_first, stops_at_check, Found, Stops, Reads, went, goes}
use Rattle.grammar.proofs.Laws.Faults.Numbers.{number_reads}
use Rattle.grammar.proofs.Laws.Faults.Parts.{filling_faults}

-- a list in any order
module _ {A B : Type 0} {read : Reader A} {plain : A → B} {grammar : Grammar B} {F : Faults} (r : Reads read plain grammar F) where
  times_passes : (end n : ℕ) → Passes (Reaches end) (times read n)
  unfolding times
  times_passes end zero o bs v o' rest h e = rw (← got_next e, ← got_rest e) h
  times_passes end (suc n) o bs v o' rest h e =
      in_turn (read o bs) _ e λ x o₁ r₁ e₁ e₂. in_turn (times read n o₁ r₁) _ e₂ λ xs o₂ r₂ e₃ e₄.
      rw (← got_next e₄, ← got_rest e₄) (times_passes end n o₁ r₁ xs o₂ r₂ (r.passes end o bs x o₁ r₁ h e₁) e₃)

  times_stopped : (n o : ℕ) (bs : List ℕ) {m k : ℕ} → Bytes bs → times read n o bs ≡ stop m k → Found (TimesFault grammar F n) bs o m k
  unfolding times
  times_stopped zero o bs h e = absurd (not_got (sym e))
  times_stopped (suc n) o bs h e =
      stops_in (read o bs) _ e
      (λ e₁. let f = r.faults.found o bs h e₁ in record { place = f.place; is = f.is; fault = in_the_next f.fault })
      (λ v o₁ r₁ e₁ e₂.
      let s = went r o bs h e₁ in
      stops_first (times read n o₁ r₁) (λ vs. v ∷ vs) e₂ λ e₃.
      let f = times_stopped n o₁ r₁ s.left e₃ in
      rw s.is (record { place = length s.front + f.place; is = omega (arith, f.is, s.next); fault = further_on s.means f.fault }))

  times_stop : {n : ℕ} {bs : List ℕ} {m at : ℕ} → TimesFault grammar F n bs m at → (o : ℕ) → times read n o bs ≡ stop m (o + at)
  unfolding times
  times_stop (in_the_next f) o = rw (r.faults.stops f o)
  times_stop (further_on {first = first} {rest = rest} {m = m} g f) o =
      let a = goes r g o rest in
      rw (a.reads, times_stop f (o + length first)) (ap (stop m) (omega arith))

  vector_stopped : (o : ℕ) (bs : List ℕ) {m k : ℕ} → Bytes bs → vector read o bs ≡ stop m k → Found (VectorFault grammar F) bs o m k
  unfolding vector
  vector_stopped o bs h e =
      stops_in (number o bs) _ e
      (λ e₁. let f = number_reads.faults.found o bs h e₁ in record { place = f.place; is = f.is; fault = in_the_count f.fault })
      (λ n o₁ r₁ e₁ e₂.
      let s = went number_reads o bs h e₁ in
      let f = times_stopped n o₁ r₁ s.left e₂ in
      rw s.is (record { place = length s.front + f.place; is = omega (arith, f.is, s.next); fault = in_the_entries s.means f.fault }))

  vector_stops : {bs : List ℕ} {m at : ℕ} → VectorFault grammar F bs m at → (o : ℕ) → vector read o bs ≡ stop m (o + at)
  unfolding vector
  vector_stops (in_the_count f) o = rw (number_reads.faults.stops f o)
  vector_stops (in_the_entries {count = count} {rest = rest} {m = m} u f) o =
      let a = goes number_reads u o rest in
      rw (a.reads, a.same, times_stop f (o + length count)) (ap (stop m) (omega arith))

  vector_passes : (end : ℕ) → Passes (Reaches end) (vector read)
  unfolding vector
  vector_passes end o bs v o' rest h e = in_turn (number o bs) _ e λ n o₁ r₁ e₁ e₂. times_passes end n o₁ r₁ v o' rest (number_reads.passes end o bs n o₁ r₁ h e₁) e₂

  pub vectors_read : Reads (vector read) (map plain) (Vector grammar) (VectorFault grammar F)
  vectors_read = record { exact = vectors_exact r.exact; passes = vector_passes; faults = record { found = vector_stopped; stops = vector_stops } }

-- whose values are what they mean
pub vector_reads : {A : Type 0} {read : Reader A} {grammar : Grammar A} {F : Faults} → Reads read (λ x. x) grammar F → Reads (vector read) (λ x. x) (Vector grammar) (VectorFault grammar F)
vector_reads r = let all = vectors_read r in record { exact = vector_exact r.exact; passes = all.passes; faults = all.faults }

-- a kind
kind_stopped : (o : ℕ) (bs : List ℕ) {m k : ℕ} → Bytes bs → older_kind o bs ≡ stop m k → Found OlderKindFault bs o m k
unfolding older_kind
kind_stopped o bs h e =
    stops_in (number o bs) _ e
    (λ e₁. let f = number_reads.faults.found o bs h e₁ in record { place = f.place; is = f.is; fault = in_the_number f.fault })
    (λ i o₁ r₁ e₁ e₂.
    let s = went number_reads o bs h e₁ in
    stops_at_check (leb i 1) _ _ _ _ _ e₂
    (λ t is at. rw (← is, s.is) (record { place = 0; is = omega arith; fault = kind_above r₁ s.means (leb-false i 1 t) }))
    (λ t e₃. absurd (not_got (sym e₃))))

kind_stops : {bs : List ℕ} {m at : ℕ} → OlderKindFault bs m at → (o : ℕ) → older_kind o bs ≡ stop m (o + at)
unfolding older_kind
kind_stops (in_the_number f) o = rw (number_reads.faults.stops f o)
kind_stops (kind_above {k = k} rest u l) o =
    let a = goes number_reads u o rest in
    rw (a.reads, a.same, lt-leb k 1 l) (ap (stop 12) (omega arith))

kind_reads : Reads older_kind (λ x. x) OlderKind OlderKindFault
unfolding older_kind
kind_reads = record {
  exact = kind_exact;
  passes = λ end o bs v o' rest h e. in_turn (number o bs) _ e λ n o₁ r₁ e₁ e₂. passed (leb n 1) _ _ _ _ _ e₂ λ t e₃. rw (← got_next e₃, ← got_rest e₃) (number_reads.passes end o bs n o₁ r₁ h e₁);
  faults = record { found = kind_stopped; stops = kind_stops };
}

abbrev hint_from : Hint → ℕ → OlderHint
hint_from v n = record { kind = v; offset = n }

-- a hint
hint_stopped : (o : ℕ) (bs : List ℕ) {m k : ℕ} → Bytes bs → older_hint o bs ≡ stop m k → Found OlderHintFault bs o m k
unfolding older_hint
hint_stopped o bs h e =
    stops_in (older_kind o bs) _ e
    (λ e₁. let f = kind_reads.faults.found o bs h e₁ in record { place = f.place; is = f.is; fault = in_the_kind f.fault })
    (λ v o₁ r₁ e₁ e₂.
    let s = went kind_reads o bs h e₁ in
    stops_first (number o₁ r₁) (hint_from v) e₂ λ e₃.
    let f = number_reads.faults.found o₁ r₁ s.left e₃ in
    rw s.is (record { place = length s.front + f.place; is = omega (arith, f.is, s.next); fault = in_the_offset s.means f.fault }))

hint_stops : {bs : List ℕ} {m at : ℕ} → OlderHintFault bs m at → (o : ℕ) → older_hint o bs ≡ stop m (o + at)
unfolding older_hint
hint_stops (in_the_kind f) o = rw (kind_reads.faults.stops f o)
hint_stops (in_the_offset {kind = kind} {rest = rest} {n = n} g f) o =
    let a = goes kind_reads g o rest in
    rw (a.reads, number_reads.faults.stops f (o + length kind)) (ap (stop n) (omega arith))

hint_reads : Reads older_hint (λ x. x) OlderBranchHint OlderHintFault
unfolding older_hint
hint_reads = record {
  exact = hint_exact;
  passes = λ end o bs v o' rest h e. in_turn (older_kind o bs) _ e λ k o₁ r₁ e₁ e₂. in_turn (number o₁ r₁) _ e₂ λ n o₂ r₂ e₃ e₄.
      rw (← got_next e₄, ← got_rest e₄) (number_reads.passes end o₁ r₁ n o₂ r₂ (kind_reads.passes end o bs k o₁ r₁ h e₁) e₃);
  faults = record { found = hint_stopped; stops = hint_stops };
}

-- the byte behind a function
zero_passes : (end : ℕ) → Passes (Reaches end) zero_byte
unfolding zero_byte
zero_passes end o [] v o' rest h e = absurd (not_got e)
zero_passes end o (b ∷ bs) v o' rest h e =
    by_test (eqb b 0)
    (λ t. let e' : got tt (suc o) bs ≡ got v o' rest = rw t at e in rw (← got_next e', ← got_rest e') (omega arith))
    (λ t. absurd (not_got (rw t at e)))

zero_stopped {ℓ} : {C : Type ℓ} (o : ℕ) (bs : List ℕ) {m k : ℕ} → zero_byte o bs ≡ stop m k → (bs ≡ [] → 2 ≡ m → o ≡ k → C) → ((b : ℕ) (rest : List ℕ) → bs ≡ b ∷ rest → (b ≡ 0 → ⊥) → 17 ≡ m → o ≡ k → C) → C
unfolding zero_byte
zero_stopped o [] e none other = none refl (stop_number e) (stop_place e)
zero_stopped o (b ∷ bs) e none other =
    by_test (eqb b 0)
    (λ t. absurd (not_got (sym (rw t at e))))
    (λ t. let e' = rw t at e in other b bs refl (eqb-false b 0 t) (stop_number e') (stop_place e'))

abbrev entry_from : ℕ → List OlderHint → OlderEntry
entry_from i hs = record { function = i; hints = hs }

-- an entry
entry_stopped : (o : ℕ) (bs : List ℕ) {m k : ℕ} → Bytes bs → older_entry o bs ≡ stop m k → Found OlderFunctionFault bs o m k
unfolding older_entry
entry_stopped o bs {m} {k} h e =
    stops_in (number o bs) _ e
    (λ e₁. let f = number_reads.faults.found o bs h e₁ in record { place = f.place; is = f.is; fault = in_the_function f.fault })
    (λ i o₁ r₁ e₁ e₂.
    let s = went number_reads o bs h e₁ in
    stops_in (zero_byte o₁ r₁) _ e₂
    (λ e₃. zero_stopped o₁ r₁ e₃
    (λ none is at. rw (← is, s.is ∙ ap (λ x. s.front ++ x) none ∙ append-nil s.front) (record { place = length s.front; is = sym at ∙ s.next; fault = missing s.means }))
    (λ b rest split other is at. rw (← is, s.is ∙ ap (λ x. s.front ++ x) split) (record { place = length s.front; is = sym at ∙ s.next; fault = not_zero rest s.means other })))
    (λ z o₂ r₂ e₃ e₄. zero_read o₁ r₁ e₃ λ is_zero.
    let behind : Bytes r₂ = bytes_after (0 ∷ []) r₂ (rw is_zero at s.left) in
    stops_first (vector older_hint o₂ r₂) (entry_from i) e₄ λ e₅.
    let f = (vector_reads hint_reads).faults.found o₂ r₂ behind e₅ in
    let past : o₂ ≡ o₁ + 1 = omega (arith, reach zero_passes o₁ r₁ e₃, ap length is_zero) in
    rw (s.is ∙ ap (λ x. s.front ++ x) is_zero) (record { place = length s.front + (1 + f.place); is = omega (arith, f.is, s.next, past); fault = in_the_hints s.means f.fault })))

entry_stops : {bs : List ℕ} {m at : ℕ} → OlderFunctionFault bs m at → (o : ℕ) → older_entry o bs ≡ stop m (o + at)
unfolding older_entry zero_byte
entry_stops (in_the_function f) o = rw (number_reads.faults.stops f o)
entry_stops (missing {function = function} u) o =
    let a = goes number_reads u o [] in
    let reads : number o function ≡ got a.value (o + length function) [] = rw append-nil at a.reads in
    rw reads
entry_stops (not_zero {b = b} rest u n) o =
    let a = goes number_reads u o (b ∷ rest) in
    rw (a.reads, ne_eqb b 0 n)
entry_stops (in_the_hints {function = function} {rest = rest} {n = n} u f) o =
    let a = goes number_reads u o (0 ∷ rest) in
    rw (a.reads, (vector_reads hint_reads).faults.stops f (suc (o + length function))) (ap (stop n) (omega arith))

entry_reads : Reads older_entry (λ x. x) FunctionBranchHints OlderFunctionFault
unfolding older_entry
entry_reads = record {
  exact = entry_exact;
  passes = λ end o bs v o' rest h e. in_turn (number o bs) _ e λ n o₁ r₁ e₁ e₂. in_turn (zero_byte o₁ r₁) _ e₂ λ z o₂ r₂ e₃ e₄. in_turn (vector older_hint o₂ r₂) _ e₄ λ hs o₃ r₃ e₅ e₆.
      rw (← got_next e₆, ← got_rest e₆) ((vector_reads hint_reads).passes end o₂ r₂ hs o₃ r₃ (zero_passes end o₁ r₁ z o₂ r₂ (number_reads.passes end o bs n o₁ r₁ h e₁) e₃) e₅);
  faults = record { found = entry_stopped; stops = entry_stops };
}

pub older_faults : Stops (filling (vector older_entry)) OlderFault
older_faults = filling_faults (vector_reads entry_reads)
