-- The readers of sized parts and of names stop exactly at their faults, and so does one that must fill its part.
use Rattle.std.specs.Prelude.{ℕ, ◌+◌, Bool, true, false, List, [], ◌∷◌, ◌++◌, ◌≡◌, refl, leb, length, take, drop}
use Rattle.std.proofs.Common.{sym, ap, ◌∙◌, add-zero, arith, leb-false, le-leb, length-append, take-append-drop, length-take-le}
use Rattle.std.proofs.lemmas.Bool.{lt-leb}
use Rattle.std.proofs.Math.Seq.{take-append_seam, drop-append_seam}
use Rattle.format.specs.Bytes.{Bytes}
use Rattle.format.specs.Reading.{got, stop, Reader, at_end, filling}
use Rattle.format.specs.Numbers.{number}
use Rattle.format.specs.Parts.{Part, sized, name}
use Rattle.format.specs.Text.{utf8}
use Rattle.format.specs.Refusals.{number_of}
use Rattle.format.specs.Laws.Outcomes.{not_got, false_true}
use Rattle.format.proofs.Laws.Passing.{sized_passes, tested_passes, Reaches, reach_step}
use Rattle.format.specs.Laws.Tight.{bytes_before}
use Rattle.format.specs.Laws.Turns.{in_sized, tested}
use Rattle.format.specs.declared.Reason.{Reason}
use Rattle.format.specs.declared.Reason.TheVariants.{NotText}
use Rattle.grammar.specs.Numbers.{Grammar, U32}
use Rattle.grammar.specs.Lists.{Sized}
use Rattle.grammar.specs.Names.{Name}
use Rattle.grammar.specs.Faults.Numbers.{Faults}
use Rattle.grammar.specs.Faults.Parts.{SizedFault, in_the_size, runs_past, NameFault, in_the_length, not_text, FillingFault, within, left_over}
use Rattle.grammar.proofs.Laws.CodePoints.{utf8_text, text_utf8}
use Rattle.grammar.proofs.Laws.Lists.{sized_exact}
use Rattle.grammar.proofs.Laws.Names.{name_exact}
use Rattle.grammar.specs.Laws.Faults.Stops.{stop_number, stop_place, stops_in, stops_at_check, Found, Stops, Reads, went, goes}
use Rattle.grammar.proofs.Laws.Faults.Numbers.{number_reads}

-- a sized part
sized_stopped : (o : ℕ) (bs : List ℕ) {n k : ℕ} → Bytes bs → sized o bs ≡ stop n k → Found SizedFault bs o n k
unfolding sized
sized_stopped o bs h e =
    stops_in (number o bs) _ e
    (λ e₁. let f = number_reads.faults.found o bs h e₁ in record { place = f.place; is = f.is; fault = in_the_size f.fault })
    (λ n o₁ r₁ e₁ e₂.
    let s = went number_reads o bs h e₁ in
    stops_at_check (leb n (length r₁)) _ _ _ _ _ e₂
    (λ t is at. rw (← is, s.is) (record { place = 0; is = omega arith; fault = runs_past r₁ s.means (leb-false n (length r₁) t) }))
    (λ t e₃. absurd (not_got (sym e₃))))

sized_stops : {bs : List ℕ} {n at : ℕ} → SizedFault bs n at → (o : ℕ) → sized o bs ≡ stop n (o + at)
unfolding sized
sized_stops (in_the_size f) o = rw (number_reads.faults.stops f o)
sized_stops (runs_past {n = n} rest u l) o =
    let a = goes number_reads u o rest in
    rw (a.reads, a.same, lt-leb n (length rest) l, add-zero)

pub sized_reads : Reads sized (λ p. p.bytes) Sized SizedFault
sized_reads = record {
  exact = sized_exact;
  passes = λ end. sized_passes (Reaches end) (reach_step end);
  faults = record { found = sized_stopped; stops = sized_stops };
}

-- what a sized part that was read is made of: the bytes of its size, and its own, behind them
pub record Cut (p : Part) (bs : List ℕ) (o o₁ : ℕ) (r₁ : List ℕ) : Type 0 where
  pub size : List ℕ
  pub is : bs ≡ size ++ (p.bytes ++ r₁)
  pub means : U32 size (length p.bytes)
  pub place : p.at ≡ o + length size
  pub next : o₁ ≡ o + length size + length p.bytes
  pub own : Bytes p.bytes

pub cut_apart : (o : ℕ) (bs : List ℕ) {p : Part} {o₁ : ℕ} {r₁ : List ℕ} → Bytes bs → sized o bs ≡ got p o₁ r₁ → Cut p bs o o₁ r₁
cut_apart o bs h e =
    in_sized o bs e λ n o₂ r₂ e₁ fit part next left.
    let s = went number_reads o bs h e₁ in
    let long = length-take-le n r₂ fit in
    rw (← part, ← left) (record {
      size = s.front;
      is = s.is ∙ ap (λ x. s.front ++ x) (sym (take-append-drop n r₂));
      means = rw long s.means;
      place = s.next;
      next = omega (arith, next, s.next, long);
      own = bytes_before (take n r₂) (drop n r₂) (rw (take-append-drop n r₂) s.left);
    })

pub part_reads : {size text : List ℕ} → U32 size (length text) → (o : ℕ) (rest : List ℕ) → sized o (size ++ (text ++ rest)) ≡ got (record { at = o + length size; bytes = text }) (o + length size + length text) rest
unfolding sized
part_reads {size} {text} u o rest =
    let a = goes number_reads u o (text ++ rest) in
    rw (a.reads, a.same, length-append, le-leb (length text) (length text + length rest) (omega arith), take-append_seam, drop-append_seam)

-- a sized part that passes a test: where it does not, the refusal points to a spot that is known from the part
module _ (test : List ℕ → Bool) (why : Reason) (spot : ℕ → Part → ℕ) where
  pub tested_stopped {ℓ} : {C : Type ℓ} (o : ℕ) (bs : List ℕ) {n k : ℕ} → Bytes bs → tested test why spot o bs ≡ stop n k → (Found SizedFault bs o n k → C) → ((p : Part) (o₁ : ℕ) (r₁ : List ℕ) → Cut p bs o o₁ r₁ → test p.bytes ≡ false → number_of why ≡ n → spot o p ≡ k → C) → C
  tested_stopped o bs h e in_part broken =
      stops_in (sized o bs) _ e
      (λ e₁. in_part (sized_reads.faults.found o bs h e₁))
      (λ p o₁ r₁ e₁ e₂. stops_at_check (test p.bytes) _ _ _ _ _ e₂
      (λ t is at. broken p o₁ r₁ (cut_apart o bs h e₁) t is at)
      (λ t e₃. absurd (not_got (sym e₃))))

  pub tested_stops : {size text : List ℕ} → U32 size (length text) → test text ≡ false → (o : ℕ) (rest : List ℕ) → tested test why spot o (size ++ (text ++ rest)) ≡ stop (number_of why) (spot o (record { at = o + length size; bytes = text }))
  tested_stops u t o rest = rw (part_reads u o rest, t)

-- a name
pub not-true : (b : Bool) → (b ≡ true → ⊥) → b ≡ false
not-true true h = absurd (h refl)
not-true false h = refl

name_stopped : (o : ℕ) (bs : List ℕ) {n k : ℕ} → Bytes bs → name o bs ≡ stop n k → Found NameFault bs o n k
unfolding name
name_stopped o bs h e =
    tested_stopped utf8 NotText (λ o p. p.at) o bs h e
    (λ f. record { place = f.place; is = f.is; fault = in_the_length f.fault })
    (λ p o₁ r₁ c t is at. rw (← is, c.is) (record { place = length c.size; is = sym at ∙ c.place; fault = not_text r₁ c.means (λ cs x. false_true (sym t ∙ text_utf8 x)) }))

name_stops : {bs : List ℕ} {n at : ℕ} → NameFault bs n at → (o : ℕ) → name o bs ≡ stop n (o + at)
unfolding name
name_stops (in_the_length f) o = rw (sized_reads.faults.stops f o)
name_stops (not_text {text = text} rest u none) o = tested_stops utf8 NotText (λ o p. p.at) u (not-true (utf8 text) (λ t. let (cs, x) = utf8_text text t in none cs x)) o rest

pub name_reads : Reads name (λ p. p.bytes) Name NameFault
unfolding name
name_reads = record {
  exact = name_exact;
  passes = λ end. tested_passes (Reaches end) (reach_step end) utf8 NotText (λ o p. p.at);
  faults = record { found = name_stopped; stops = name_stops };
}

-- what must fill its part
module _ {A B : Type 0} {read : Reader A} {plain : A → B} {grammar : Grammar B} {F : Faults} (r : Reads read plain grammar F) where
  over : (v : A) (o : ℕ) (bs : List ℕ) {n k : ℕ} → at_end v o bs ≡ stop n k → (b : ℕ) × (others : List ℕ) × (bs ≡ b ∷ others) × (10 ≡ n) × (o ≡ k)
  over v o [] e = absurd (not_got (sym e))
  over v o (b ∷ others) e = (b, others, refl, stop_number e, stop_place e)

  filling_stopped : (o : ℕ) (bs : List ℕ) {n k : ℕ} → Bytes bs → filling read o bs ≡ stop n k → Found (FillingFault grammar F) bs o n k
  filling_stopped o bs h e =
      stops_in (read o bs) _ e
      (λ e₁. let f = r.faults.found o bs h e₁ in record { place = f.place; is = f.is; fault = within f.fault })
      (λ v o₁ r₁ e₁ e₂.
      let s = went r o bs h e₁ in
      let (b, others, left, is, at) = over v o₁ r₁ e₂ in
      rw (← is, s.is ∙ ap (λ x. s.front ++ x) left) (record { place = length s.front; is = sym at ∙ s.next; fault = left_over b others s.means }))

  filling_stops : {bs : List ℕ} {n at : ℕ} → FillingFault grammar F bs n at → (o : ℕ) → filling read o bs ≡ stop n (o + at)
  filling_stops (within f) o = rw (r.faults.stops f o)
  filling_stops (left_over b others g) o = let a = goes r g o (b ∷ others) in rw a.reads

  pub filling_faults : Stops (filling read) (FillingFault grammar F)
  filling_faults = record { found = filling_stopped; stops = filling_stops }
