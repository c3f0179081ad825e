-- K2: the reader of the older edition of hints is exact.
use Prim.Native.Nat.{ℕ, zero, suc, ◌+◌}
use Rattle.std.specs.Prelude.{true, ◌≡◌, eqb, leb}
use mathlib.Core.List.{List, [], ◌∷◌, ◌++◌, map, append_assoc}
use Rattle.std.proofs.Math.Path.{refl, sym, ap, ap₂}
use Rattle.std.proofs.Common.{◌∙◌, arith, eqb-true, leb-true}
use Rattle.std.proofs.Math.ListN.{length}
use Rattle.format.specs.Bytes.{Bytes}
use Rattle.format.specs.Reading.{got, Reader, filling, accepted}
use Rattle.format.specs.Numbers.{number}
use Rattle.format.specs.Older.{OlderHint, OlderEntry, times, vector, zero_byte, kind_numbered, older_kind, older_hint, older_entry, judge_older}
use Rattle.format.specs.Laws.Tight.{bytes_after}
use Rattle.format.specs.Laws.Outcomes.{not_got, got_value, got_rest, by_test, in_turn, passed, judged}
use Rattle.format.specs.declared.Hint.{Hint}
use Rattle.format.specs.declared.Hint.TheVariants.{Unlikely, Likely}
use Rattle.grammar.specs.Numbers.{Grammar, U32}
use Rattle.grammar.specs.Older.{Times, no_more, one_more, Vector, vector as a_vector, OlderKind, unlikely, likely, OlderBranchHint, branch_hint, FunctionBranchHints, function_hints, OlderHints}
use Rattle.grammar.specs.Laws.Exact.{Stretch, left_bytes, Accepts, Exact, fills_sound, fills_complete}
use Rattle.grammar.proofs.Laws.Numbers.{number_sound, number_complete}

-- a list in any order
module _ {A B : Type 0} {read : Reader A} {plain : A → B} {grammar : Grammar B} (exact : Exact read plain grammar) where
  times_sound : (n o : ℕ) (bs : List ℕ) {vs : List A} {o' : ℕ} {rest : List ℕ} → Bytes bs → times read n o bs ≡ got vs o' rest → Stretch (Times grammar n) (map plain vs) rest bs
  unfolding times
  times_sound zero o bs h e = rw (← got_value e, ← got_rest e) (record { front = []; is = refl; means = no_more })
  times_sound (suc n) o bs h e =
      in_turn (read o bs) _ e λ v o₁ r₁ e₁ e₂. in_turn (times read n o₁ r₁) _ e₂ λ vs o₂ r₂ e₃ e₄.
      let one = exact.sound o bs h e₁ in
      let more = times_sound n o₁ r₁ (left_bytes one h) e₃ in
      rw (← got_value e₄, ← got_rest e₄) (record {
        front = one.front ++ more.front;
        is = one.is ∙ ap (λ x. one.front ++ x) more.is ∙ sym (append_assoc one.front more.front r₂);
        means = one_more one.means more.means;
      })

  times_complete : {n : ℕ} {bs : List ℕ} {vs : List B} → Times grammar n bs vs → (o : ℕ) (rest : List ℕ) → Accepts (times read n) (map plain) bs vs o rest
  unfolding times
  times_complete no_more o rest = record { value = []; next = o; reads = refl; same = refl }
  times_complete (one_more {first = a} {others = b} g m) o rest =
      let one = exact.complete g o (b ++ rest) in
      let more = times_complete m one.next rest in
      record {
        value = one.value ∷ more.value;
        next = more.next;
        reads = rw (append_assoc a b rest, one.reads, more.reads);
        same = ap₂ ◌∷◌ one.same more.same;
      }

  pub vectors_exact : Exact (vector read) (map plain) (Vector grammar)
  unfolding vector
  vectors_exact = record {
    sound = λ o bs h e. in_turn (number o bs) _ e λ n o₁ r₁ e₁ e₂.
        let count = number_sound o bs h e₁ in
        let more = times_sound n o₁ r₁ (left_bytes count h) e₂ in
        record {
          front = count.front ++ more.front;
          is = count.is ∙ ap (λ x. count.front ++ x) more.is ∙ sym (append_assoc count.front more.front _);
          means = a_vector count.means more.means;
        };
    complete = up;
  }
    where
      up : {bs : List ℕ} {vs : List B} → Vector grammar bs vs → (o : ℕ) (rest : List ℕ) → Accepts (vector read) (map plain) bs vs o rest
      up (a_vector {count = a} {entries = b} u m) o rest =
          let more = times_complete m (o + length a) rest in
          record { value = more.value; next = more.next; reads = rw (append_assoc a b rest, number_complete u o (b ++ rest), more.reads); same = more.same }

-- whose values are what they mean
map_same : {A : Type 0} (vs : List A) → map (λ x. x) vs ≡ vs
map_same [] = refl
map_same (v ∷ vs) = ap (λ x. v ∷ x) (map_same vs)

pub vector_exact : {A : Type 0} {read : Reader A} {grammar : Grammar A} → Exact read (λ x. x) grammar → Exact (vector read) (λ x. x) (Vector grammar)
vector_exact exact = record {
  sound = λ o bs {v} {o'} {rest} h e. let s = (vectors_exact exact).sound o bs h e in record { front = s.front; is = s.is; means = rw (map_same v) at s.means };
  complete = λ g o rest. let a = (vectors_exact exact).complete g o rest in record { value = a.value; next = a.next; reads = a.reads; same = sym (map_same a.value) ∙ a.same };
}

-- a kind
kind_means : (k : ℕ) {rest bs : List ℕ} → leb k 1 ≡ true → Stretch U32 k rest bs → Stretch OlderKind (kind_numbered k) rest bs
kind_means zero t s = record { front = s.front; is = s.is; means = unlikely s.means }
kind_means (suc zero) t s = record { front = s.front; is = s.is; means = likely s.means }
kind_means (suc (suc k)) t s = absurd (omega (arith, leb-true (suc (suc k)) 1 t))

kind_complete : {bs : List ℕ} {h : Hint} → OlderKind bs h → (o : ℕ) (rest : List ℕ) → Accepts older_kind (λ x. x) bs h o rest
unfolding older_kind
kind_complete (unlikely {bs = bs} u) o rest = record { value = Unlikely; next = o + length bs; reads = rw (number_complete u o rest); same = refl }
kind_complete (likely {bs = bs} u) o rest = record { value = Likely; next = o + length bs; reads = rw (number_complete u o rest); same = refl }

pub kind_exact : Exact older_kind (λ x. x) OlderKind
unfolding older_kind
kind_exact = record {
  sound = λ o bs h e. in_turn (number o bs) _ e λ k o₁ r₁ e₁ e₂. passed (leb k 1) _ _ _ _ _ e₂ λ t e₃. rw (← got_value e₃, ← got_rest e₃) (kind_means k t (number_sound o bs h e₁));
  complete = kind_complete;
}

-- a hint
hint_complete : {bs : List ℕ} {v : OlderHint} → OlderBranchHint bs v → (o : ℕ) (rest : List ℕ) → Accepts older_hint (λ x. x) bs v o rest
unfolding older_hint
hint_complete (branch_hint {kind = a} {offset = b} {n = n} g u) o rest =
    let kind = kind_complete g o (b ++ rest) in
    record {
      value = record { kind = kind.value; offset = n };
      next = kind.next + length b;
      reads = rw (append_assoc a b rest, kind.reads, number_complete u kind.next rest);
      same = ap (λ h. record { kind = h; offset = n }) kind.same;
    }

pub hint_exact : Exact older_hint (λ x. x) OlderBranchHint
unfolding older_hint
hint_exact = record {
  sound = λ o bs h e. in_turn (older_kind o bs) _ e λ k o₁ r₁ e₁ e₂. in_turn (number o₁ r₁) _ e₂ λ n o₂ r₂ e₃ e₄.
      let kind = kind_exact.sound o bs h e₁ in
      let offset = number_sound o₁ r₁ (left_bytes kind h) e₃ in
      rw (← got_value e₄, ← got_rest e₄) (record {
        front = kind.front ++ offset.front;
        is = kind.is ∙ ap (λ x. kind.front ++ x) offset.is ∙ sym (append_assoc kind.front offset.front r₂);
        means = branch_hint kind.means offset.means;
      });
  complete = hint_complete;
}

-- an entry: the byte behind the function is 0
pub zero_read {ℓ} : {C : Type ℓ} (o : ℕ) (bs : List ℕ) {v : Unit {0}} {o' : ℕ} {rest : List ℕ} → zero_byte o bs ≡ got v o' rest → (bs ≡ 0 ∷ rest → C) → C
unfolding zero_byte
zero_read o [] e k = absurd (not_got e)
zero_read o (b ∷ bs) e k = by_test (eqb b 0) (λ t. k (rw (eqb-true b 0 t) (ap (λ x. 0 ∷ x) (got_rest (rw t at e))))) (λ t. absurd (not_got (rw t at e)))

entry_complete : {bs : List ℕ} {v : OlderEntry} → FunctionBranchHints bs v → (o : ℕ) (rest : List ℕ) → Accepts older_entry (λ x. x) bs v o rest
unfolding older_entry zero_byte
entry_complete (function_hints {function = a} {hints = b} {n = n} u g) o rest =
    let hints = (vector_exact hint_exact).complete g (suc (o + length a)) rest in
    record {
      value = record { function = n; hints = hints.value };
      next = hints.next;
      reads = rw (append_assoc a (0 ∷ b) rest, number_complete u o (0 ∷ (b ++ rest)), hints.reads);
      same = ap (λ hs. record { function = n; hints = hs }) hints.same;
    }

pub entry_exact : Exact older_entry (λ x. x) FunctionBranchHints
unfolding older_entry
entry_exact = record {
  sound = λ o bs h e.
      in_turn (number o bs) _ e λ n o₁ r₁ e₁ e₂. in_turn (zero_byte o₁ r₁) _ e₂ λ z o₂ r₂ e₃ e₄. in_turn (vector older_hint o₂ r₂) _ e₄ λ hs o₃ r₃ e₅ e₆.
      let function = number_sound o bs h e₁ in
      zero_read o₁ r₁ e₃ λ is_zero.
      let behind : Bytes r₂ = bytes_after (0 ∷ []) r₂ (rw is_zero at (left_bytes function h)) in
      let hints = (vector_exact hint_exact).sound o₂ r₂ behind e₅ in
      rw (← got_value e₆, ← got_rest e₆) (record {
        front = function.front ++ (0 ∷ hints.front);
        is = function.is ∙ ap (λ x. function.front ++ x) (is_zero ∙ ap (λ x. 0 ∷ x) hints.is) ∙ sym (append_assoc function.front (0 ∷ hints.front) r₃);
        means = function_hints function.means hints.means;
      });
  complete = entry_complete;
}

-- THE PAYLOAD, wherever it begins in what was lent
pub older_sound : (at : ℕ) (p : List ℕ) (v : List OlderEntry) → Bytes p → judge_older at p ≡ accepted v → OlderHints p v
unfolding judge_older
older_sound at p v h e = judged (filling (vector older_entry) at p) e λ o rest e₁. fills_sound (vector_exact entry_exact) at p h e₁

pub older_complete : (at : ℕ) (p : List ℕ) (m : List OlderEntry) → OlderHints p m → (v : List OlderEntry) × (judge_older at p ≡ accepted v) × (v ≡ m)
unfolding judge_older
older_complete at p m g = let (v, o, e, q) = fills_complete (vector_exact entry_exact) g at in (v, rw e, q)
