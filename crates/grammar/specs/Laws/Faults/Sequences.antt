-- Readers one behind the other, by their grammars and their faults.
use Rattle.std.specs.Prelude.{ℕ, ◌+◌, List, ◌++◌, ◌≡◌, length}
use Rattle.std.proofs.Common.{append_assoc, sym, ap, ◌∙◌, arith}
use Rattle.format.specs.Bytes.{Bytes}
use Rattle.format.specs.Reading.{got, stop, Reader, and_then}
use Rattle.format.specs.Laws.Outcomes.{in_turn}
use Rattle.grammar.specs.Numbers.{Grammar}
use Rattle.grammar.specs.Faults.Numbers.{Faults}
use Rattle.grammar.specs.Faults.Sequences.{Then, then, ThenFault, in_the_first, behind_it}
use Rattle.grammar.specs.Laws.Exact.{Stretch, left_bytes, Accepts}
use Rattle.grammar.specs.Laws.Faults.Stops.{stops_in, Found, Reads, went, goes}

module _ {A₁ A₂ B₁ B₂ : Type 0} {first : Reader A₁} {plain₁ : A₁ → B₁} {G₁ : Grammar B₁} {F₁ : Faults} (r₁ : Reads first plain₁ G₁ F₁)
    {next : A₁ → Reader A₂} {plain₂ : A₂ → B₂} (G₂ : B₁ → Grammar B₂) (F₂ : B₁ → Faults) (r₂ : (v : A₁) → Reads (next v) plain₂ (G₂ (plain₁ v)) (F₂ (plain₁ v))) where
  abbrev both : Reader A₂
  both o bs = and_then (first o bs) next

  both_sound : (o : ℕ) (bs : List ℕ) {w : A₂} {o' : ℕ} {rest : List ℕ} → Bytes bs → both o bs ≡ got w o' rest → Stretch (Then G₁ G₂) (plain₂ w) rest bs
  both_sound o bs {rest = rest} h e =
      in_turn (first o bs) next e λ v o₁ rest₁ e₁ e₂.
      let one = r₁.exact.sound o bs h e₁ in
      let two = (r₂ v).exact.sound o₁ rest₁ (left_bytes one h) e₂ in
      record {
        front = one.front ++ two.front;
        is = one.is ∙ ap (λ x. one.front ++ x) two.is ∙ sym (append_assoc one.front two.front rest);
        means = then one.means two.means;
      }

  both_complete : {front : List ℕ} {w : B₂} → Then G₁ G₂ front w → (o : ℕ) (rest : List ℕ) → Accepts both plain₂ front w o rest
  both_complete (then {front = a} {rest = b} {w = w} g h) o rest =
      let one = r₁.exact.complete g o (b ++ rest) in
      let h' : G₂ (plain₁ one.value) b w = rw one.same h in
      let two = (r₂ one.value).exact.complete h' one.next rest in
      record { value = two.value; next = two.next; reads = rw (append_assoc a b rest, one.reads) two.reads; same = two.same }

  both_stopped : (o : ℕ) (bs : List ℕ) {n k : ℕ} → Bytes bs → both o bs ≡ stop n k → Found (ThenFault G₁ F₁ F₂) bs o n k
  both_stopped o bs h e =
      stops_in (first o bs) next e
      (λ e₁. let f = r₁.faults.found o bs h e₁ in record { place = f.place; is = f.is; fault = in_the_first f.fault })
      (λ v o₁ rest₁ e₁ e₂.
      let s = went r₁ o bs h e₁ in
      let f = (r₂ v).faults.found o₁ rest₁ s.left e₂ in
      rw s.is (record { place = length s.front + f.place; is = omega (arith, f.is, s.next); fault = behind_it s.means f.fault }))

  both_stop : {bs : List ℕ} {n at : ℕ} → ThenFault G₁ F₁ F₂ bs n at → (o : ℕ) → both o bs ≡ stop n (o + at)
  both_stop (in_the_first f) o = rw (r₁.faults.stops f o)
  both_stop (behind_it {front = front} {rest = rest} {n = n} {at = at} g f) o =
      let a = goes r₁ g o rest in
      let f' : F₂ (plain₁ a.value) rest n at = rw a.same f in
      rw a.reads ((r₂ a.value).faults.stops f' (o + length front) ∙ ap (stop n) (omega arith))

  pub then_reads : Reads both plain₂ (Then G₁ G₂) (ThenFault G₁ F₁ F₂)
  then_reads = record {
    exact = record { sound = both_sound; complete = both_complete };
    passes = λ end o bs w o' rest h e. in_turn (first o bs) next e λ v o₁ rest₁ e₁ e₂. (r₂ v).passes end o₁ rest₁ w o' rest (r₁.passes end o bs v o₁ rest₁ h e₁) e₂;
    faults = record { found = both_stopped; stops = both_stop };
  }

-- a reader that reads the same
pub reads_as : {A B : Type 0} {read other : Reader A} {plain : A → B} {grammar : Grammar B} {F : Faults} → ((o : ℕ) (bs : List ℕ) → other o bs ≡ read o bs) → Reads read plain grammar F → Reads other plain grammar F
reads_as same r = record {
  exact = record {
    sound = λ o bs h e. r.exact.sound o bs h (sym (same o bs) ∙ e);
    complete = λ {front} g o rest. let a = r.exact.complete g o rest in record { value = a.value; next = a.next; reads = same o (front ++ rest) ∙ a.reads; same = a.same };
  };
  passes = λ end o bs v o' rest h e. r.passes end o bs v o' rest h (sym (same o bs) ∙ e);
  faults = record { found = λ o bs h e. r.faults.found o bs h (sym (same o bs) ∙ e); stops = λ {bs} f o. same o bs ∙ r.faults.stops f o };
}
